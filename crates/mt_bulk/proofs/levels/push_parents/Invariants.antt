use Rattle.mt_bulk.proofs.Prelude.{◌≡◌, ◌++◌, map, range_with_len, parent_at}
use Rattle.mt_bulk.proofs.levels.push_parents.Given as goal

abbrev pub invariant-loop-slot : goal.invariant-loop-slot
invariant-loop-slot l = l.parents.items ≡ l.fn.parents.items ++ map (parent_at l.fn.row) (range_with_len 0 l.slot)
