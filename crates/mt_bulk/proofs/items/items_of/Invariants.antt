use Rattle.mt_bulk.proofs.Prelude.{◌≡◌, ◌+◌, ◌*◌, ◌≤◌, ◌++◌, drop, length, vec_len, vec_capacity, greatest_of, items_between, items_of, low_behind, misplaced, misplaced_from}
use Rattle.mt_bulk.proofs.items.items_of.Given as goal

abbrev pub invariant-loop-at : goal.invariant-loop-at
invariant-loop-at l = record {
  told : l.items.items ++ items_between (low_behind l.before) (greatest_of l.fn.kind + 1) (drop l.at l.fn.ranges) ≡ items_of l.fn.kind l.fn.ranges;
  good : misplaced_from l.fn.kind l.at (low_behind l.before) (drop l.at l.fn.ranges) ≡ misplaced l.fn.kind l.fn.ranges;
  few : vec_len l.items ≤ 2 * l.at;
  room : vec_capacity l.items ≡ 2 * length l.fn.ranges + 1;
}
