use Rattle.mt_told.proofs.Compared.{RangesGoOn}
use Rattle.mt_told.proofs.comparing.behind_ranges.Given as goal

abbrev pub invariant-loop-range : goal.invariant-loop-range
invariant-loop-range l = RangesGoOn l.fn.text l.rest l.ranges l.range-index
