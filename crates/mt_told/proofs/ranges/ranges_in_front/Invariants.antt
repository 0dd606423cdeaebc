use Rattle.mt_told.proofs.Prelude.{◌≡◌, length, AreRangesBefore}
use Rattle.mt_told.proofs.ranges.ranges_in_front.Given as goal

abbrev pub invariant-loop-line : goal.invariant-loop-line
invariant-loop-line l = AreRangesBefore l.text l.ranges.items l.rest × (length l.ranges.items ≡ l._line)
