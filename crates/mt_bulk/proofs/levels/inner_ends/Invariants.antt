use Rattle.mt_bulk.proofs.Prelude.{◌≡◌, ◌++◌, ◌≤◌, ◌-◌, List, drop, length, Item, cut, ends_from, inner_size}
use Rattle.mt_bulk.proofs.levels.inner_ends.Given as goal

abbrev pub invariant-loop-at : goal.invariant-loop-at
invariant-loop-at l = record {
  told : (items : List Item) → length items ≡ l.fn.count → l.ends.items ++ ends_from l.at (cut (inner_size l.fn.most) (drop l.at items)) ≡ ends_from 0 (cut (inner_size l.fn.most) items);
  inside : l.at ≤ l.fn.count;
}

abbrev pub decreases-loop-at : goal.decreases-loop-at
decreases-loop-at l = l.count - l.at
