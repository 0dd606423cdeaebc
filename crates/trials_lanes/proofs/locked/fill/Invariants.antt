use Rattle.trials_lanes.proofs.Prelude.{IsPassOf}
use Rattle.trials_lanes.proofs.locked.fill.Given as goal

abbrev pub invariant-loop-n : goal.invariant-loop-n
invariant-loop-n g l = IsPassOf l.fn.tree.tree l.pass
