use Rattle.mt_c.proofs.Using.{spare_still, spares_of}
use Rattle.mt_c.proofs.walker.Walker.meet.Goals as goal

pub try_meet-requires-clause-others : goal.try_meet-requires-clause-others
try_meet-requires-clause-others c = spares_of _ _ c.requires.others

pub returns-clause-others : goal.returns-clause-others
returns-clause-others c = spare_still _ _ _ _ _ c.try_meet.result c.try_meet.ensures.met c.try_meet.ensures.kept c.requires.others c.try_meet.ensures.others
