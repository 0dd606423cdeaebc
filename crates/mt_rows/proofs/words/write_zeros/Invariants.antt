use Rattle.mt_rows.proofs.Prelude.{◌≡◌, ◌≤◌, length, vec_capacity, with_zeros}
use Rattle.mt_rows.proofs.words.write_zeros.Given as goal

abbrev pub invariant-loop : goal.invariant-loop
invariant-loop l = record {
  zeros : with_zeros l.fn.len l.words.items ≡ with_zeros l.fn.len l.fn.words.items;
  counted : length l.words.items ≡ l.counter;
  room : l.fn.len ≤ vec_capacity l.words;
  grown : vec_capacity l.fn.words ≤ vec_capacity l.words;
}
