use Rattle.mt_path.proofs.Prelude.{length}
use Rattle.mt_path.proofs.Onward.{IsPopped}
use Rattle.mt_path.proofs.paths.pop_to.Given as goal

abbrev pub invariant-loop-step : goal.invariant-loop-step
invariant-loop-step l = IsPopped l.fn.path.items l.path.items l.index

abbrev pub decreases-loop-step : goal.decreases-loop-step
decreases-loop-step l = length l.path.items
