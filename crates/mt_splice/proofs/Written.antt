-- One level of a replacement: the gathered spans are written in rows, and the rows that these replace are buried.
use Rattle.mt_splice.proofs.Prelude.{◌≡◌, ℕ, refl, ap, eq-eqb, Span, row_in, one_if, is_row_of}

-- ---- the level is written

-- the row counts as its own
pub counts_itself : (h : ℕ) (x : Span) → one_if (is_row_of (row_in x.word) h x) ≡ 1
counts_itself h x = ap one_if (eq-eqb (row_in x.word) (row_in x.word) refl)
    -- ---- the new rows are the fewest
