-- The word in a slot's column is that of the span that stands in the slot.
use Rattle.mt_splice.proofs.Prelude.{◌≡◌, ℕ, zero, suc, ◌+◌, List, [], ◌∷◌, Option, Some, Bool, true, false, nat_le, ap, ◌∙◌, subst, arith, slice_index, if◌then◌else◌, slice_get, Item, RowKind, Span, row_in, named_kind, pivot_column, slot_column, item_at, items_from, spans_from, Table, base_of, column, spans_by, spans_in, slots_of, gaps_of}

module _ (slots gaps : ℕ) (w : List ℕ) (base max : ℕ) where
  one_word : (first i k last : ℕ) (y : Span) → slice_get (spans_from first (item_at slots gaps w base i last ∷ [])) k ≡ Some y → slice_index w (base + slot_column slots (i + k)) ≡ y.word
  one_word first i zero last y at =
      let same : record { first = first; last = last; word = slice_index w (base + slot_column slots i) } ≡ y = cc in
      let here : slot_column slots (i + 0) ≡ slot_column slots i = omega arith in
      ap (λ (c : ℕ). slice_index w (base + c)) here ∙ ap (λ (x : Span). x.word) same
  one_word first i (suc k) last y at = absurd (cc)

  -- of an item and those behind it, where the row may end with it
  first_word : (ends : Bool) (first i k pivot : ℕ) (rest : List Item) (y : Span) → ((n : ℕ) → slice_get (spans_from (pivot + 1) rest) n ≡ Some y → slice_index w (base + slot_column slots (i + 1 + n)) ≡ y.word)
      → slice_get (spans_from first (if ends then item_at slots gaps w base i pivot ∷ [] else item_at slots gaps w base i pivot ∷ rest)) k ≡ Some y → slice_index w (base + slot_column slots (i + k)) ≡ y.word
  first_word true first i k pivot rest y behind at = one_word first i k pivot y at
  first_word false first i zero pivot rest y behind at = one_word first i zero pivot y at
  first_word false first i (suc k) pivot rest y behind at =
      let next : slot_column slots (i + suc k) ≡ slot_column slots (i + 1 + k) = omega arith in
      ap (λ (c : ℕ). slice_index w (base + c)) next ∙ behind k at

  word_in : (left first i k : ℕ) (y : Span) → slice_get (spans_from first (items_from slots gaps w base max left i)) k ≡ Some y → slice_index w (base + slot_column slots (i + k)) ≡ y.word
  word_in zero first i k y at = absurd (cc)
  word_in (suc zero) first i k y at = one_word first i k max y at
  word_in (suc (suc left)) first i k y at =
      first_word (nat_le max (slice_index w (base + pivot_column i))) first i k (slice_index w (base + pivot_column i)) (items_from slots gaps w base max (suc left) (i + 1)) y
      (λ n behind. word_in (suc left) (slice_index w (base + pivot_column i) + 1) (i + 1) n y behind) at

pub slot_word : (t : Table) (kind : RowKind) (x y : Span) (i : ℕ) → named_kind x.word ≡ Some kind → slice_get (spans_in t x) i ≡ Some y → column t (row_in x.word) (slot_column (slots_of t.width kind) i) ≡ y.word
slot_word t kind x y i named at =
    let here : slice_get (spans_by t (Some kind) x) i ≡ Some y = subst (λ (k : Option RowKind). slice_get (spans_by t k x) i ≡ Some y) named at in
    let column_is : slot_column (slots_of t.width kind) i ≡ slot_column (slots_of t.width kind) (0 + i) = omega arith in
    ap (column t (row_in x.word)) column_is ∙ word_in (slots_of t.width kind) (gaps_of t.width kind) t.words (base_of t (row_in x.word)) x.last (slots_of t.width kind) x.first 0 i y here
