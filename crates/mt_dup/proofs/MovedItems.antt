-- The items of a row whose words stand in another row, those in its slots changed.
use Rattle.mt_dup.proofs.Prelude.{◌≡◌, ℕ, zero, suc, ◌+◌, ◌-◌, ◌*◌, ◌<◌, ◌≤◌, List, [], ◌∷◌, length, map, Bool, true, false, refl, sym, ap, ◌∙◌, ⊎_elim, inl, inr, arith, slice_index, nat_le, if◌then◌else◌, cases_eq, cases_lt, get_or_past, length-map, Item, Span, IsLayout, pivot_column, slot_column, gap_column, gap_at, item_at, items_from, items_at, row_words, spans_from, gap_at-none, gap_at-some, slots-fit, all_gaps, item_or, get_or-padded, used, used-pivot, used-slot, used-gap, length-used}

-- with another word
abbrev pub put : (ℕ → ℕ) → Item → Item
put g x = record { last = x.last; word = g x.word; gap = x.gap }

abbrev pub put_span : (ℕ → ℕ) → Span → Span
put_span g x = record { first = x.first; last = x.last; word = g x.word }

pub spans_put : (g : ℕ → ℕ) (first : ℕ) (items : List Item) → spans_from first (map (put g) items) ≡ map (put_span g) (spans_from first items)
spans_put g first [] = refl
spans_put g first (x ∷ items) = ap (λ (l : List Span). record { first = first; last = x.last; word = g x.word } ∷ l) (spans_put g (x.last + 1) items)

pub put_same : (xs : List Span) → map (put_span (λ w. w)) xs ≡ xs
put_same [] = refl
put_same (x ∷ xs) = ap (λ (l : List Span). x ∷ l) (put_same xs)

module _ (all slots gaps base base' : ℕ) (w w' : List ℕ) (g : ℕ → ℕ) (layout : IsLayout all slots gaps)
    (pivots : (c : ℕ) → 0 < c → c < slots → slice_index w' (base' + c) ≡ slice_index w (base + c))
    (words : (i : ℕ) → i < slots → slice_index w' (base' + slot_column slots i) ≡ g (slice_index w (base + slot_column slots i)))
    (behind : (c : ℕ) → 2 * slots ≤ c → c < all → slice_index w' (base' + c) ≡ slice_index w (base + c)) where
  same_gap : (i : ℕ) → i < slots → gap_at slots gaps w' base' i ≡ gap_at slots gaps w base i
  same_gap i h =
      ⊎_elim
      (λ (none : gaps ≡ 0). gap_at-none slots gaps w' base' i none ∙ sym (gap_at-none slots gaps w base i none))
      (λ (some : gaps ≡ 0 → ⊥).
      gap_at-some slots gaps w' base' i some
      ∙ (behind (gap_column slots i) (omega arith) (omega (arith, slots-fit all slots gaps layout, all_gaps all slots gaps layout))
      ∙ sym (gap_at-some slots gaps w base i some)))
      (cases_eq gaps 0)

  put_item : (i last : ℕ) → i < slots → item_at slots gaps w' base' i last ≡ put g (item_at slots gaps w base i last)
  put_item i last h = rw (words i h, same_gap i h) refl

  put_items_from : (max left i : ℕ) → left + i ≡ slots → items_from slots gaps w' base' max left i ≡ map (put g) (items_from slots gaps w base max left i)
  put_items_from max zero i s = refl
  put_items_from max (suc zero) i s = ap (λ (x : Item). x ∷ []) (put_item i max (omega arith))
  put_items_from max (suc (suc left)) i s =
      rw (pivots (pivot_column i) (omega arith) (omega arith), put_item i (slice_index w (base + pivot_column i)) (omega arith), put_items_from max (suc left) (i + 1) (omega arith)) (by (nat_le max (slice_index w (base + pivot_column i))))
    where
      by : (b : Bool) → (if b then put g (item_at slots gaps w base i (slice_index w (base + pivot_column i))) ∷ [] else put g (item_at slots gaps w base i (slice_index w (base + pivot_column i))) ∷ map (put g) (items_from slots gaps w base max (suc left) (i + 1)))
          ≡ map (put g) (if b then item_at slots gaps w base i (slice_index w (base + pivot_column i)) ∷ [] else item_at slots gaps w base i (slice_index w (base + pivot_column i)) ∷ items_from slots gaps w base max (suc left) (i + 1))
      by true = refl
      by false = refl

  pub put_items : (max : ℕ) → items_at slots gaps w' base' max ≡ map (put g) (items_at slots gaps w base max)
  put_items max = put_items_from max slots 0 (omega arith)

-- ---- the words that such items make

module _ (all slots gaps parent parent' : ℕ) (items : List Item) (g : ℕ → ℕ) (zero_is : g 0 ≡ 0) (layout : IsLayout all slots gaps) (fit : length items ≤ slots) where
  abbrev items' : List Item
  items' = map (put g) items

  fit' : length items' ≤ slots
  fit' = omega (arith, length-map items (put g))

  item_put : (items : List Item) (k : ℕ) → item_or (map (put g) items) k ≡ put g (item_or items k)
  item_put [] k = ap (λ (n : ℕ). record { last = 0; word = n; gap = 0 }) (sym zero_is)
  item_put (x ∷ items) zero = refl
  item_put (x ∷ items) (suc k) = item_put items k

  -- a word by the parts of the row
  module _ (first : ℕ) (xs : List Item) (fits : length xs ≤ slots) where
    abbrev row : List ℕ
    row = row_words all slots gaps first xs

    abbrev front : List ℕ
    front = used all slots gaps first xs layout fits

    word_pivot : (k : ℕ) → k + 1 < slots → slice_index row (pivot_column k) ≡ (item_or xs k).last
    word_pivot k h = get_or-padded front (all - length front) (pivot_column k) ∙ used-pivot all slots gaps first xs layout fits k h

    word_slot : (k : ℕ) → k < slots → slice_index row (slot_column slots k) ≡ (item_or xs k).word
    word_slot k h = get_or-padded front (all - length front) (slot_column slots k) ∙ used-slot all slots gaps first xs layout fits k h

    word_gap : (k : ℕ) → k < gaps → slice_index row (gap_column slots k) ≡ (item_or xs k).gap
    word_gap k h = get_or-padded front (all - length front) (gap_column slots k) ∙ used-gap all slots gaps first xs layout fits k h

    word_past : (c : ℕ) → 2 * slots + gaps ≤ c → slice_index row c ≡ 0
    word_past c h = get_or-padded front (all - length front) c ∙ get_or_past front c 0 (omega (arith, length-used all slots gaps first xs layout fits))

  pub put_pivot : (c : ℕ) → 0 < c → c < slots → slice_index (row_words all slots gaps parent' items') c ≡ slice_index (row_words all slots gaps parent items) c
  put_pivot c some within =
      let at : pivot_column (c - 1) ≡ c = omega arith in
      ap (slice_index (row_words all slots gaps parent' items')) (sym at)
      ∙ (word_pivot parent' items' fit' (c - 1) (omega arith) ∙ (ap (λ (x : Item). x.last) (item_put items (c - 1)) ∙ (sym (word_pivot parent items fit (c - 1) (omega arith)) ∙ ap (slice_index (row_words all slots gaps parent items)) at)))

  pub put_slot : (i : ℕ) → i < slots → slice_index (row_words all slots gaps parent' items') (slot_column slots i) ≡ g (slice_index (row_words all slots gaps parent items) (slot_column slots i))
  put_slot i within = word_slot parent' items' fit' i within ∙ (ap (λ (x : Item). x.word) (item_put items i) ∙ sym (ap g (word_slot parent items fit i within)))

  pub put_behind : (c : ℕ) → 2 * slots ≤ c → slice_index (row_words all slots gaps parent' items') c ≡ slice_index (row_words all slots gaps parent items) c
  put_behind c from = elim (cases_lt c (2 * slots + gaps)) [
    | inl within ↦
        let at : gap_column slots (c - 2 * slots) ≡ c = omega arith in
        ap (slice_index (row_words all slots gaps parent' items')) (sym at)
        ∙ (word_gap parent' items' fit' (c - 2 * slots) (omega arith) ∙ (ap (λ (x : Item). x.gap) (item_put items (c - 2 * slots)) ∙ (sym (word_gap parent items fit (c - 2 * slots) (omega arith)) ∙ ap (slice_index (row_words all slots gaps parent items)) at)))
    | inr past ↦ word_past parent' items' fit' c past ∙ sym (word_past parent items fit c past)
  ]
