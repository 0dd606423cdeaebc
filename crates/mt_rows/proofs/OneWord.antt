-- One word of a row is written: what stands in the other rows stays, and by a parent word what stands in its own row.
use Rattle.mt_rows.proofs.Prelude.{◌≢◌, ℕ, ◌+◌, ◌<◌, refl, get_or-set_other, arith, columns, same_place, other_place, some_columns, row_in, Span, base_of, SameSpans, Rooted, with_word}
use Rattle.mt_rows.proofs.Frames.{same_spans}

pub other_row_stays : (t : Rooted) (row col word : ℕ) (x : Span) → row_in x.word ≢ row → col < columns t.table.width → SameSpans t.table (with_word t row col word).table x
other_row_stays t row col word x other within = same_spans t.table (with_word t row col word).table x refl
    (λ c above inside. get_or-set_other t.table.words (base_of t.table row + col) (base_of t.table (row_in x.word) + c) word 0
    (other_place t.table.width row (row_in x.word) c col other inside within))

pub parent_stays : (t : Rooted) (row word : ℕ) (x : Span) → SameSpans t.table (with_word t row 0 word).table x
parent_stays t row word x = same_spans t.table (with_word t row 0 word).table x refl
    (λ c above inside. get_or-set_other t.table.words (base_of t.table row + 0) (base_of t.table (row_in x.word) + c) word 0
    (λ same. let first = (same_place (columns t.table.width) row (row_in x.word) c 0 inside (some_columns t.table.width) same).1 in absurd (omega arith)))
