use Rattle.mt_leaf.proofs.Prelude.{◌≡◌, ◌≤◌, ◌+◌, fold, length, take, with_joined}
use Rattle.mt_leaf.proofs.edits.push_joined_all.Given as goal

abbrev pub invariant-loop-item : goal.invariant-loop-item
invariant-loop-item l = record {
  items : l.run.items ≡ fold with_joined l.initial.run.items (take l.item-index l.items);
  count : length l.run.items ≤ length l.initial.run.items + l.item-index;
}
