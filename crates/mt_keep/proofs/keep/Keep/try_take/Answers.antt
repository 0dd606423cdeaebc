use Rattle.mt_keep.proofs.Prelude.{rules}
use Rattle.mt_keep.proofs.keep.Keep.try_take.Goals as goal

pub grabbed-requires-clause-away : goal.grabbed-requires-clause-away
grabbed-requires-clause-away g c = c.grab.ensures.away (search rules)
