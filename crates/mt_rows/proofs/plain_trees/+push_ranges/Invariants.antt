use Rattle.mt_rows.proofs.Prelude.{◌≡◌, ◌-◌, ◌++◌, take, flat_map, ranges_of}
use Rattle.mt_rows.proofs.plain_trees.+push_ranges.Given as goal

abbrev pub decreases-push_ranges : goal.decreases-push_ranges
decreases-push_ranges l = l.depth

abbrev pub invariant-loop-child : goal.invariant-loop-child
invariant-loop-child l = l.ranges.items ≡ l.initial.ranges.items ++ flat_map (ranges_of (record { width = l.width; words = l.words }) (l.depth - 1)) (take l.child-index l.child-items)
