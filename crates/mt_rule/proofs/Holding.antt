-- A row that keeps its form has the same spans but for their words, each in the same slot.
use Rattle.mt_rule.proofs.Prelude.{◌≡◌, ℕ, zero, suc, ◌+◌, ◌*◌, ◌<◌, List, [], ◌∷◌, Bool, true, false, length, nat_le, refl, sym, ap, ◌∙◌, subst, arith, Some, slice_index, if◌then◌else◌, slice_get, Kind, Width, columns, Item, RowKind, Span, pivot_column, slot_column, item_at, items_from, slots_of, gaps_of, spans_from, kind_at, Extent, SameForm, spans_at, column_at}

-- ---- the span in a slot

-- In the slot k of ys there is a span with this word, and with the first and the last of that in xs.
pub record StandsNow (word : ℕ) (xs ys : List Span) (k : ℕ) : Type 0 where
  pub now : Span
  pub at : slice_get ys k ≡ Some now
  pub word_is : now.word ≡ word
  pub same : (x : Span) → slice_get xs k ≡ Some x → (now.first ≡ x.first) × (now.last ≡ x.last)

module _ (slots gaps base base' max : ℕ) (w w' : List ℕ) where
  -- the one item in slot i, and one with others behind it
  one_now : (first i last k : ℕ) → k < length (spans_from first (item_at slots gaps w base i last ∷ []))
      → StandsNow (slice_index w' (base' + slot_column slots (i + k))) (spans_from first (item_at slots gaps w base i last ∷ [])) (spans_from first (item_at slots gaps w' base' i last ∷ [])) k
  one_now first i last zero low = record {
    now = record { first = first; last = last; word = slice_index w' (base' + slot_column slots i) };
    at = refl;
    word_is = let here : slot_column slots i ≡ slot_column slots (i + 0) = omega arith in ap (λ (c : ℕ). slice_index w' (base' + c)) here;
    same = λ x e. let is : record { first = first; last = last; word = slice_index w (base + slot_column slots i) } ≡ x = cc in (ap (λ (y : Span). y.first) is, ap (λ (y : Span). y.last) is);
  }
  one_now first i last (suc k) low = absurd (omega arith)

  some_now : (ends : Bool) (first i k last : ℕ) (rest rest' : List Item)
      → ((n : ℕ) → n < length (spans_from (last + 1) rest) → StandsNow (slice_index w' (base' + slot_column slots (i + 1 + n))) (spans_from (last + 1) rest) (spans_from (last + 1) rest') n)
      → k < length (spans_from first (if ends then item_at slots gaps w base i last ∷ [] else item_at slots gaps w base i last ∷ rest))
      → StandsNow (slice_index w' (base' + slot_column slots (i + k)))
      (spans_from first (if ends then item_at slots gaps w base i last ∷ [] else item_at slots gaps w base i last ∷ rest))
      (spans_from first (if ends then item_at slots gaps w' base' i last ∷ [] else item_at slots gaps w' base' i last ∷ rest')) k
  some_now true first i k last rest rest' behind low = one_now first i last k low
  some_now false first i zero last rest rest' behind low = let one = one_now first i last zero (omega arith) in record { now = one.now; at = one.at; word_is = one.word_is; same = one.same }
  some_now false first i (suc k) last rest rest' behind low =
      let one = behind k (omega arith) in
      let next : slot_column slots (i + 1 + k) ≡ slot_column slots (i + suc k) = omega arith in
      record { now = one.now; at = one.at; word_is = one.word_is ∙ ap (λ (c : ℕ). slice_index w' (base' + c)) next; same = one.same }

  module _ (pivots : (c : ℕ) → 0 < c → c < slots → slice_index w' (base' + c) ≡ slice_index w (base + c)) where
    stands_now : (left first i k : ℕ) → left + i ≡ slots → k < length (spans_from first (items_from slots gaps w base max left i))
        → StandsNow (slice_index w' (base' + slot_column slots (i + k))) (spans_from first (items_from slots gaps w base max left i)) (spans_from first (items_from slots gaps w' base' max left i)) k
    stands_now zero first i k all low = absurd (omega arith)
    stands_now (suc zero) first i k all low = one_now first i max k low
    stands_now (suc (suc left)) first i k all low =
        let pivot : ℕ = slice_index w (base + pivot_column i) in
        let rest : List Item = items_from slots gaps w base max (suc left) (i + 1) in
        let rest' : List Item = items_from slots gaps w' base' max (suc left) (i + 1) in
        subst (λ (n : ℕ). StandsNow (slice_index w' (base' + slot_column slots (i + k)))
        (spans_from first (if nat_le max pivot then item_at slots gaps w base i pivot ∷ [] else item_at slots gaps w base i pivot ∷ rest))
        (spans_from first (if nat_le max n then item_at slots gaps w' base' i n ∷ [] else item_at slots gaps w' base' i n ∷ rest')) k)
        (sym (pivots (pivot_column i) (omega arith) (omega arith)))
        (some_now (nat_le max pivot) first i k pivot rest rest' (λ n inside. stands_now (suc left) (pivot + 1) (i + 1) n (omega arith) inside) low)

-- ---- rows of a table

-- an item of a row of this form, in a table of the same width, stands in the same slot, and its word is in the slot's column
pub slot_now : (kind : Kind) (width width' : Width) (w w' : List ℕ) (row i : ℕ) (e : Extent)
    → width' ≡ width
    → SameForm (record { width = width; words = w }) (record { width = width'; words = w' }) (kind_at kind e.level) row
    → i < length (spans_at kind (record { width = width; words = w }) row e)
    → StandsNow (slice_index w' (column_at width' row (slot_column (slots_of width' (kind_at kind e.level)) i)))
    (spans_at kind (record { width = width; words = w }) row e) (spans_at kind (record { width = width'; words = w' }) row e) i
slot_now kind width width' w w' row i e one =
    subst (λ (v : Width). SameForm (record { width = width; words = w }) (record { width = v; words = w' }) (kind_at kind e.level) row
    → i < length (spans_at kind (record { width = width; words = w }) row e)
    → StandsNow (slice_index w' (column_at v row (slot_column (slots_of v (kind_at kind e.level)) i)))
    (spans_at kind (record { width = width; words = w }) row e) (spans_at kind (record { width = v; words = w' }) row e) i) (sym one) here
  where
    here : SameForm (record { width = width; words = w }) (record { width = width; words = w' }) (kind_at kind e.level) row
        → i < length (spans_at kind (record { width = width; words = w }) row e)
        → StandsNow (slice_index w' (column_at width row (slot_column (slots_of width (kind_at kind e.level)) i)))
        (spans_at kind (record { width = width; words = w }) row e) (spans_at kind (record { width = width; words = w' }) row e) i
    here form low =
        let slots : ℕ = slots_of width (kind_at kind e.level) in
        subst (λ (n : ℕ). StandsNow (slice_index w' (columns width * row + slot_column slots n)) (spans_at kind (record { width = width; words = w }) row e) (spans_at kind (record { width = width; words = w' }) row e) i)
        (let same : 0 + i ≡ i = omega arith in same)
        (stands_now slots (gaps_of width (kind_at kind e.level)) (columns width * row) (columns width * row) e.last w w' (λ c above pivot. (form c above (omega arith)).0 pivot) slots e.first 0 i (omega arith) low)

-- a pivot is the same
pub pivot_now : (width width' : Width) (w w' : List ℕ) (kind : RowKind) (row i : ℕ) → width' ≡ width → SameForm (record { width = width; words = w }) (record { width = width'; words = w' }) kind row → i + 1 < slots_of width' kind
    → slice_index w' (column_at width' row (pivot_column i)) ≡ slice_index w (column_at width' row (pivot_column i))
pivot_now width width' w w' kind row i one =
    subst (λ (v : Width). SameForm (record { width = width; words = w }) (record { width = v; words = w' }) kind row → i + 1 < slots_of v kind
    → slice_index w' (column_at v row (pivot_column i)) ≡ slice_index w (column_at v row (pivot_column i))) (sym one)
    (λ form low. (form (pivot_column i) (omega arith) (omega arith)).0 (omega arith))
