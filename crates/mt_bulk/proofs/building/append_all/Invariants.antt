use Rattle.mt_bulk.proofs.Prelude.{◌≡◌, ◌≤◌, ◌++◌, take, vec_capacity, heads_made, words_made}
use Rattle.mt_bulk.proofs.building.append_all.Given as goal

abbrev pub invariant-loop-lane : goal.invariant-loop-lane
invariant-loop-lane l = record {
  words : l.words.items ≡ l.fn.words.items ++ words_made (take l.lane-index l.lanes);
  heads : l.heads.items ≡ l.fn.heads.items ++ heads_made (take l.lane-index l.lanes);
  words_room : vec_capacity l.fn.words ≤ vec_capacity l.words;
  heads_room : vec_capacity l.fn.heads ≤ vec_capacity l.heads;
}
