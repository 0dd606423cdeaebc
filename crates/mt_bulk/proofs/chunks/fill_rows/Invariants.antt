use Rattle.mt_bulk.proofs.Prelude.{◌≡◌, ◌++◌, ◌≤◌, ◌+◌, ◌*◌, drop, length, vec_len, vec_capacity, finds_room, columns, kind_width, heads, words_of, CanFill, begins_at, heads_in, rows_between, view_of, chunk_words}
use Rattle.mt_bulk.proofs.chunks.fill_rows.Given as goal

abbrev pub invariant-loop-at : goal.invariant-loop-at
invariant-loop-at l =
    let c = view_of l.fn.chunk in
    record {
      words : l.words.items ++ words_of (kind_width c.tree) c.kind (drop l.at c.parents) (rows_between c.items l.from (drop l.at c.ends)) ≡ l.fn.words.items ++ chunk_words c;
      heads : l.heads.items ++ heads (finds_room c.tree) c.kind (begins_at c.items l.from) (c.number + l.at) (rows_between c.items l.from (drop l.at c.ends)) ≡ l.fn.heads.items ++ heads_in c;
      fill : CanFill c.tree c.kind c.items l.from (drop l.at c.ends);
      words_len : vec_len l.words ≡ vec_len l.fn.words + columns (kind_width c.tree) * l.at;
      heads_len : vec_len l.heads ≡ vec_len l.fn.heads + l.at;
      words_room : vec_capacity l.fn.words ≤ vec_capacity l.words;
      heads_room : vec_capacity l.heads ≡ vec_capacity l.fn.heads;
      buffer : length l.buffer ≡ columns (kind_width c.tree);
    }
