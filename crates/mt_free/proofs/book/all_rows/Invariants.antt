use Rattle.mt_free.proofs.Prelude.{◌≡◌, ◌≤◌, ◌+◌, ◌++◌, vec_len, vec_capacity, rows_down}
use Rattle.mt_free.proofs.book.all_rows.Given as goal

abbrev pub invariant-loop-n : goal.invariant-loop-n
invariant-loop-n l = record {
  items : l.free.items ++ rows_down l.n ≡ rows_down l.fn.rows;
  counted : vec_len l.free + l.n ≡ l.fn.rows;
  room : l.fn.rows ≤ vec_capacity l.free;
}
