use Rattle.mt_list.proofs.Prelude.{length}
use Rattle.mt_list.proofs.HolesSought.{IsSoughtDown}
use Rattle.mt_list.proofs.areas.highest.Given as goal

abbrev pub invariant-loop-range : goal.invariant-loop-range
invariant-loop-range l = IsSoughtDown l.fn.kind l.fn.ranges l.rest l.window.size l.window.min l.window.max l.last

abbrev pub decreases-loop-range : goal.decreases-loop-range
decreases-loop-range l = length l.rest
