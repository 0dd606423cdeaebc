use Rattle.mt_list.proofs.Prelude.{drop}
use Rattle.mt_list.proofs.HolesSought.{IsSoughtUp}
use Rattle.mt_list.proofs.areas.lowest.Given as goal

abbrev pub invariant-loop-range : goal.invariant-loop-range
invariant-loop-range l = IsSoughtUp l.kind l.fn.ranges (drop l.range-index l.fn.ranges) l.window.size l.window.min l.window.max l.first
