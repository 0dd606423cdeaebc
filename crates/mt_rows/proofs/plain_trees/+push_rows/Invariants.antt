use Rattle.mt_rows.proofs.Prelude.{◌≡◌, ◌-◌, ◌++◌, take, flat_map, rows_of}
use Rattle.mt_rows.proofs.plain_trees.+push_rows.Given as goal

abbrev pub decreases-push_rows : goal.decreases-push_rows
decreases-push_rows l = l.depth

abbrev pub invariant-loop-child : goal.invariant-loop-child
invariant-loop-child l = l.rows.items ≡ l.initial.rows.items ++ flat_map (rows_of (record { width = l.width; words = l.words }) (l.depth - 1)) (take l.child-index l.child-items)
