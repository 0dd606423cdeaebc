use Rattle.mt_rows.proofs.Prelude.{◌≡◌, ◌++◌, take, flat_map, leaf_range}
use Rattle.mt_rows.proofs.plain_trees.push_leaf_ranges.Given as goal

abbrev pub invariant-loop-span : goal.invariant-loop-span
invariant-loop-span l = l.ranges.items ≡ l.initial.ranges.items ++ flat_map leaf_range (take l.span-index l.spans)
