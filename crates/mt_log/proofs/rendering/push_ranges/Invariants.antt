use Rattle.mt_log.proofs.Prelude.{◌≡◌, ◌++◌, take, flat_map, range_line}
use Rattle.mt_log.proofs.rendering.push_ranges.Given as goal

abbrev pub invariant-loop-range : goal.invariant-loop-range
invariant-loop-range l = l.text.items ≡ l.fn.text.items ++ flat_map range_line (take l.range-index l.ranges)
