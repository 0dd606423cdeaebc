use Rattle.mt_rows.proofs.Prelude.{◌≡◌, ◌<◌, ◌≤◌, ℕ, length, slice_index}
use Rattle.mt_rows.proofs.words.clear_first.Given as goal

abbrev pub invariant-loop-at : goal.invariant-loop-at
invariant-loop-at l = record {
  size : length l.words ≡ length l.fn.words;
  first : (k : ℕ) → k < l.at → slice_index l.words k ≡ 0;
  rest : (k : ℕ) → l.at ≤ k → slice_index l.words k ≡ slice_index l.fn.words k;
}
