-- The gap word of one slot is stored: the item in that slot has another gap, and nothing else of its row changes.
use Rattle.mt_rows.proofs.Prelude.{◌≡◌, ◌≢◌, ℕ, zero, suc, ◌+◌, ◌-◌, ◌*◌, ◌<◌, ◌≤◌, ◌==◌, List, [], ◌∷◌, ◌++◌, false, length, map, take, replicate, refl, sym, ap, ◌∙◌, subst, arith, length-append, get_or-set_other, get_or-set_same, ne_eqb, slice_index, slice_set, length-map, set-append_right, Item, Span, pivot_column, slot_column, gap_column, gap_at, item_at, items_at, padded_to, pivot_words, slot_words, gap_words, row_words, spans_from, gap_at-some, length-pivots, length-slots}
use Rattle.mt_rows.proofs.SlotWords.{padded_to-set}
use Rattle.mt_rows.proofs.OneItem.{put_one, put_one-same, put_one-set, items_at-put_one}

-- ---- the gap of one item of a list

abbrev pub put_gap : ℕ → ℕ → List Item → List Item
put_gap n gap xs = put_one (λ (x : Item). record x { gap = gap }) n xs

put_gap-last : (n gap : ℕ) (xs : List Item) → map (λ (x : Item). x.last) (put_gap n gap xs) ≡ map (λ (x : Item). x.last) xs
put_gap-last n gap xs = put_one-same (λ (x : Item). record x { gap = gap }) (λ (x : Item). x.last) (λ x. refl) n xs

put_gap-word : (n gap : ℕ) (xs : List Item) → map (λ (x : Item). x.word) (put_gap n gap xs) ≡ map (λ (x : Item). x.word) xs
put_gap-word n gap xs = put_one-same (λ (x : Item). record x { gap = gap }) (λ (x : Item). x.word) (λ x. refl) n xs

put_gap-gap : (n gap : ℕ) (xs : List Item) → map (λ (x : Item). x.gap) (put_gap n gap xs) ≡ slice_set (map (λ (x : Item). x.gap) xs) n gap
put_gap-gap n gap xs = put_one-set (λ (x : Item). record x { gap = gap }) (λ (x : Item). x.gap) gap (λ x. refl) n xs

-- the spans stay
pub spans_from-put_gap : (n gap first : ℕ) (xs : List Item) → spans_from first (put_gap n gap xs) ≡ spans_from first xs
spans_from-put_gap n gap first [] = refl
spans_from-put_gap zero gap first (x ∷ xs) = refl
spans_from-put_gap (suc n) gap first (x ∷ xs) = ap (λ (l : List Span). record { first = first; last = x.last; word = x.word } ∷ l) (spans_from-put_gap n gap (x.last + 1) xs)

-- ---- the items that are read off the words

module _ (slots gaps base n gap : ℕ) (w : List ℕ) (slot : n < slots) (all : gaps ≡ slots) (fits : base + gap_column slots n < length w) where
  abbrev stored : List ℕ
  stored = slice_set w (base + gap_column slots n) gap

  some : gaps ≡ 0 → ⊥
  some none = absurd (omega arith)

  pub other_column : (c : ℕ) → c ≢ gap_column slots n → slice_index stored (base + c) ≡ slice_index w (base + c)
  other_column c other = get_or-set_other w (base + gap_column slots n) (base + c) gap 0 (λ e. other (omega arith))

  pub gap_here : slice_index stored (base + gap_column slots n) ≡ gap
  gap_here = get_or-set_same w (base + gap_column slots n) gap 0 fits

  slot_same : (i : ℕ) → i < slots → slice_index stored (base + slot_column slots i) ≡ slice_index w (base + slot_column slots i)
  slot_same i h = other_column (slot_column slots i) (λ e. omega arith)

  gap_same : (i : ℕ) → i ≢ n → gap_at slots gaps stored base i ≡ gap_at slots gaps w base i
  gap_same i other = gap_at-some slots gaps stored base i some ∙ (other_column (gap_column slots i) (λ e. other (omega arith)) ∙ sym (gap_at-some slots gaps w base i some))

  gap_is : (i : ℕ) → n ≡ i → gap_at slots gaps stored base i ≡ gap
  gap_is i here = gap_at-some slots gaps stored base i some ∙ subst (λ (j : ℕ). slice_index stored (base + gap_column slots j) ≡ gap) here gap_here

  item_other : (i last : ℕ) → i < slots → i ≢ n → item_at slots gaps stored base i last ≡ item_at slots gaps w base i last
  item_other i last low other = rw (slot_same i low, gap_same i other) refl

  item_here : (i last : ℕ) → i < slots → n ≡ i → item_at slots gaps stored base i last ≡ record (item_at slots gaps w base i last) { gap = gap }
  item_here i last low here = rw (slot_same i low, gap_is i here) refl

  pub items_at-put_gap : (max : ℕ) → items_at slots gaps stored base max ≡ put_gap n gap (items_at slots gaps w base max)
  items_at-put_gap = items_at-put_one slots gaps base n w stored (λ (x : Item). record x { gap = gap }) (λ i inner. other_column (pivot_column i) (λ e. omega arith)) item_other item_here

-- ---- the words that items make

module _ (all slots gaps parent n gap : ℕ) (items : List Item) (some : 0 < slots) (each : gaps ≡ slots) (used : n < length items) (fit : length items ≤ slots) where
  abbrev front : List ℕ
  front = (parent ∷ pivot_words slots items) ++ slot_words slots items

  length-front : length front ≡ 2 * slots
  length-front = omega (arith, length-append (parent ∷ pivot_words slots items) (slot_words slots items), length-pivots slots items, length-slots slots items fit)

  abbrev padded : List ℕ
  padded = padded_to gaps (map (λ (x : Item). x.gap) items)

  gap_words-are : (xs : List Item) → gap_words gaps xs ≡ padded_to gaps (map (λ (x : Item). x.gap) xs)
  gap_words-are xs = let is : (gaps == 0) ≡ false = ne_eqb gaps 0 (λ e. omega (arith, e)) in rw is refl

  gaps-put : gap_words gaps (put_gap n gap items) ≡ slice_set padded n gap
  gaps-put = gap_words-are (put_gap n gap items) ∙ (ap (padded_to gaps) (put_gap-gap n gap items) ∙ padded_to-set gaps n gap (map (λ (x : Item). x.gap) items) (omega (arith, length-map items (λ (x : Item). x.gap))))

  back-put : front ++ slice_set padded n gap ≡ slice_set (front ++ padded) (gap_column slots n) gap
  back-put =
      let at : gap_column slots n - 2 * slots ≡ n = omega arith in
      ap (λ (k : ℕ). front ++ slice_set padded k gap) (sym at) ∙ sym (set-append_right front padded (2 * slots) (gap_column slots n) gap length-front (omega arith))

  inside : gap_column slots n < length (front ++ padded)
  inside = omega (arith, length-append front padded, length-front, length-append (map (λ (x : Item). x.gap) items) (replicate (gaps - length (map (λ (x : Item). x.gap) items)) 0), length-map items (λ (x : Item). x.gap))

  used-put : parent ∷ pivot_words slots (put_gap n gap items) ++ slot_words slots (put_gap n gap items) ++ gap_words gaps (put_gap n gap items)
      ≡ slice_set (parent ∷ pivot_words slots items ++ slot_words slots items ++ gap_words gaps items) (gap_column slots n) gap
  used-put =
      (λ i. (parent ∷ padded_to (slots - 1) (take (slots - 1) (put_gap-last n gap items i))) ++ padded_to slots (put_gap-word n gap items i) ++ gaps-put i)
      ∙ (back-put ∙ ap (λ (l : List ℕ). slice_set (front ++ l) (gap_column slots n) gap) (sym (gap_words-are items)))

  whole-inside : gap_column slots n < length (front ++ gap_words gaps items)
  whole-inside = subst (λ (l : List ℕ). gap_column slots n < length (front ++ l)) (sym (gap_words-are items)) inside

  pub row_words-put_gap : row_words all slots gaps parent (put_gap n gap items) ≡ slice_set (row_words all slots gaps parent items) (gap_column slots n) gap
  row_words-put_gap = ap (padded_to all) used-put ∙ padded_to-set all (gap_column slots n) gap (front ++ gap_words gaps items) whole-inside

  pub row_words-gap_inside : gap_column slots n < length (row_words all slots gaps parent items)
  row_words-gap_inside = omega (arith, length-append (front ++ gap_words gaps items) (replicate (all - length (front ++ gap_words gaps items)) 0), whole-inside)
