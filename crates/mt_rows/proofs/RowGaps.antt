-- The gaps of the items that are read off a row stand in the row's gap columns, and a span covers its indexes. For the proofs of the
-- crates above.
use Rattle.mt_rows.proofs.Prelude.{◌≡◌, ℕ, zero, suc, ◌+◌, ◌*◌, ◌≤◌, List, [], ◌∷◌, true, nat_le, refl, inl, inr, slice_index, cases_Bool, le-leb, Width, columns, Item, Gapped, gap_column, pivot_column, items_from, slots_of, gaps_of, Span, gap_at-some, some_gaps_of, Table, column, covers}

-- the span covers each of its indexes
pub covers_it : (index : ℕ) (x : Span) → x.first ≤ index → index ≤ x.last → covers index x ≡ true
covers_it index x from to = rw (le-leb x.first index from, le-leb index x.last to) refl

-- the gaps of items are in the gap columns of a row, from a slot on
abbrev pub AreGapsAt : Table → ℕ → ℕ → List Item → Type 0
AreGapsAt t row slot [] = Unit {0}
AreGapsAt t row slot (x ∷ items) = (x.gap ≡ column t row (gap_column (slots_of t.width Gapped) slot)) × AreGapsAt t row (slot + 1) items

pub gaps_read : (width : Width) (w : List ℕ) (row max left i : ℕ) → AreGapsAt (record { width = width; words = w }) row i (items_from (slots_of width Gapped) (gaps_of width Gapped) w (columns width * row) max left i)
gaps_read width w row max zero i = tt
gaps_read width w row max (suc zero) i = (gap_at-some (slots_of width Gapped) (gaps_of width Gapped) w (columns width * row) i (some_gaps_of width), tt)
gaps_read width w row max (suc (suc left)) i = elim (cases_Bool (nat_le max (slice_index w (columns width * row + pivot_column i)))) [
  | inl last ↦ rw last (gap_at-some (slots_of width Gapped) (gaps_of width Gapped) w (columns width * row) i (some_gaps_of width), tt)
  | inr more ↦ rw more (gap_at-some (slots_of width Gapped) (gaps_of width Gapped) w (columns width * row) i (some_gaps_of width), gaps_read width w row max (suc left) (i + 1))
]
