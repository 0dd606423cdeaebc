use Rattle.mt_c.proofs.Prelude.{◌≡◌, ◌++◌, length, map, range_out, drop, take}
use Rattle.mt_c.proofs.shared_many.put_ranges.Given as goal

abbrev pub invariant-loop-i : goal.invariant-loop-i
invariant-loop-i l = record {
  put : l.ranges ≡ map range_out (take l.i l.found) ++ drop l.i l.fn.ranges;
  long : length l.ranges ≡ length l.fn.ranges;
}
