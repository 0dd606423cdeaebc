use Rattle.mt_shelves.proofs.LongestHole.{IsLongest}
use Rattle.mt_shelves.proofs.extents.longest_above.Given as goal

abbrev pub invariant-loop-range : goal.invariant-loop-range
invariant-loop-range l = IsLongest l.fn.ranges l.fn.index l.range-index l.last l.longest
