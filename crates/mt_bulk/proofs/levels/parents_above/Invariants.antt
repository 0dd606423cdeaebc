use Rattle.mt_bulk.proofs.Prelude.{◌≡◌, ◌++◌, ◌≤◌, ◌-◌, ◌+◌, List, drop, length, Item, parents_in, cut, inner_size}
use Rattle.mt_bulk.proofs.levels.parents_above.Given as goal

abbrev pub invariant-loop-at : goal.invariant-loop-at
invariant-loop-at l = record {
  told : (items : List Item) → length items ≡ l.fn.count → l.parents.items ++ parents_in l.row (cut (inner_size l.fn.most) (drop l.at items)) ≡ parents_in l.fn.next (cut (inner_size l.fn.most) items);
  inside : l.at ≤ l.fn.count;
  named : l.row ≤ l.fn.next + l.at;
}

abbrev pub decreases-loop-at : goal.decreases-loop-at
decreases-loop-at l = l.count - l.at
