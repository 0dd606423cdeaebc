use Rattle.mt_tree.proofs.Reserving.{never_short}
use Rattle.mt_tree.proofs.laws.a_reserve_is_enough.Goals as goal

pub returns : goal.returns
returns c = never_short
