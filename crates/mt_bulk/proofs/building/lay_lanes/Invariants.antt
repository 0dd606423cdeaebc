use Rattle.mt_bulk.proofs.Prelude.{◌≡◌, ◌≤◌, length, vec_len, vec_capacity, AreLaid, AreLanesFrom, FirstHasRoom, whole_of, words_room}
use Rattle.mt_bulk.proofs.building.lay_lanes.Given as goal

abbrev pub invariant-loop-worker : goal.invariant-loop-worker
invariant-loop-worker l = record {
  laid : AreLaid (whole_of l.fn.leaves) 0 l.from l.lanes.items;
  inside : l.from ≤ length l.fn.leaves.ends.items;
  all : l.worker ≡ l.fn.workers → l.from ≡ length l.fn.leaves.ends.items;
  len : vec_len l.lanes ≡ l.worker;
  numbered : AreLanesFrom 0 l.lanes.items;
  first : FirstHasRoom (words_room l.fn.leaves) (length l.fn.leaves.ends.items) l.lanes.items;
  room : l.fn.workers ≤ vec_capacity l.lanes;
}
