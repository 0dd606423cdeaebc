use Rattle.mt_bulk.proofs.Prelude.{◌≡◌, ◌++◌, ◌≤◌, ◌-◌, drop, length, cut, ends_from, leaf_size}
use Rattle.mt_bulk.proofs.cuts.leaf_ends.Given as goal

abbrev pub invariant-loop-at : goal.invariant-loop-at
invariant-loop-at l = record {
  told : l.ends.items ++ ends_from l.at (cut (leaf_size l.fn.most) (drop l.at l.fn.items)) ≡ ends_from 0 (cut (leaf_size l.fn.most) l.fn.items);
  inside : l.at ≤ length l.fn.items;
}

abbrev pub decreases-loop-at : goal.decreases-loop-at
decreases-loop-at l = length l.items - l.at
