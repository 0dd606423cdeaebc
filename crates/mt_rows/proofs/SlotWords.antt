-- The word of one slot is stored: the item in that slot has another word, and nothing else of its row changes.
use Rattle.mt_rows.proofs.Prelude.{◌≡◌, ◌≢◌, ℕ, zero, suc, ◌+◌, ◌-◌, ◌<◌, ◌≤◌, ◌==◌, List, [], ◌∷◌, ◌++◌, length, map, take, replicate, refl, sym, ap, ◌∙◌, subst, ⊎_elim, arith, length-append, length-set, get_or-set_other, get_or-set_same, if◌then◌else◌, slice_index, slice_set, cases_eq, length-map, set-append_left, set-append_right, Item, Span, pivot_column, slot_column, gap_column, gap_at, item_at, items_at, padded_to, pivot_words, slot_words, gap_words, row_words, spans_from, gap_at-none, gap_at-some, length-pivots, length-padded}
-- this stands below; here it is for the crates above
pub use Rattle.mt_layout.proofs.SpanLists.{length-spans_from}
use Rattle.mt_rows.proofs.OneItem.{put_one, put_one-same, put_one-set, items_at-put_one}

-- ---- the word of one item of a list

abbrev pub put_item : ℕ → ℕ → List Item → List Item
put_item n word xs = put_one (λ (x : Item). record x { word = word }) n xs

abbrev pub put_span : ℕ → ℕ → List Span → List Span
put_span n word [] = []
put_span zero word (x ∷ xs) = record x { word = word } ∷ xs
put_span (suc n) word (x ∷ xs) = x ∷ put_span n word xs

pub put_item-last : (n word : ℕ) (xs : List Item) → map (λ (x : Item). x.last) (put_item n word xs) ≡ map (λ (x : Item). x.last) xs
put_item-last n word xs = put_one-same (λ (x : Item). record x { word = word }) (λ (x : Item). x.last) (λ x. refl) n xs

pub put_item-gap : (n word : ℕ) (xs : List Item) → map (λ (x : Item). x.gap) (put_item n word xs) ≡ map (λ (x : Item). x.gap) xs
put_item-gap n word xs = put_one-same (λ (x : Item). record x { word = word }) (λ (x : Item). x.gap) (λ x. refl) n xs

pub put_item-word : (n word : ℕ) (xs : List Item) → map (λ (x : Item). x.word) (put_item n word xs) ≡ slice_set (map (λ (x : Item). x.word) xs) n word
put_item-word n word xs = put_one-set (λ (x : Item). record x { word = word }) (λ (x : Item). x.word) word (λ x. refl) n xs

pub spans_from-put : (n word first : ℕ) (xs : List Item) → spans_from first (put_item n word xs) ≡ put_span n word (spans_from first xs)
spans_from-put n word first [] = refl
spans_from-put zero word first (x ∷ xs) = refl
spans_from-put (suc n) word first (x ∷ xs) = ap (λ (l : List Span). record { first = first; last = x.last; word = x.word } ∷ l) (spans_from-put n word (x.last + 1) xs)

pub put_span_at : (n word : ℕ) (front back : List Span) (x : Span) → length front ≡ n → put_span n word (front ++ (x ∷ back)) ≡ front ++ (record x { word = word } ∷ back)
put_span_at n word front back x at = ap (λ (k : ℕ). put_span k word (front ++ (x ∷ back))) (sym at) ∙ here front
  where
    here : (front : List Span) → put_span (length front) word (front ++ (x ∷ back)) ≡ front ++ (record x { word = word } ∷ back)
    here [] = refl
    here (y ∷ front) = ap (λ (l : List Span). y ∷ l) (here front)

-- ---- the items that are read off the words

module _ (slots gaps base n word : ℕ) (w : List ℕ) (slot : n < slots) (fits : base + slot_column slots n < length w) where
  abbrev stored : List ℕ
  stored = slice_set w (base + slot_column slots n) word

  pub other_column : (c : ℕ) → c ≢ slot_column slots n → slice_index stored (base + c) ≡ slice_index w (base + c)
  other_column c other = get_or-set_other w (base + slot_column slots n) (base + c) word 0 (λ e. other (omega arith))

  pub slot_here : slice_index stored (base + slot_column slots n) ≡ word
  slot_here = get_or-set_same w (base + slot_column slots n) word 0 fits

  pivot_same : (i : ℕ) → i + 1 < slots → slice_index stored (base + pivot_column i) ≡ slice_index w (base + pivot_column i)
  pivot_same i h = other_column (pivot_column i) (λ e. omega arith)

  gap_same : (i : ℕ) → gap_at slots gaps stored base i ≡ gap_at slots gaps w base i
  gap_same i =
      ⊎_elim
      (λ (none : gaps ≡ 0). gap_at-none slots gaps stored base i none ∙ sym (gap_at-none slots gaps w base i none))
      (λ (some : gaps ≡ 0 → ⊥). gap_at-some slots gaps stored base i some ∙ (other_column (gap_column slots i) (λ e. omega arith) ∙ sym (gap_at-some slots gaps w base i some)))
      (cases_eq gaps 0)

  item_other : (i last : ℕ) → i ≢ n → item_at slots gaps stored base i last ≡ item_at slots gaps w base i last
  item_other i last other = rw (other_column (slot_column slots i) (λ e. other (omega arith)), gap_same i) refl

  item_here : (i last : ℕ) → n ≡ i → item_at slots gaps stored base i last ≡ record (item_at slots gaps w base i last) { word = word }
  item_here i last here = let is : slice_index stored (base + slot_column slots i) ≡ word = subst (λ (j : ℕ). slice_index stored (base + slot_column slots j) ≡ word) here slot_here in rw (is, gap_same i) refl

  pub items_at-put : (max : ℕ) → items_at slots gaps stored base max ≡ put_item n word (items_at slots gaps w base max)
  items_at-put =
      items_at-put_one slots gaps base n w stored (λ (x : Item). record x { word = word }) pivot_same
      (λ i last low other. item_other i last other) (λ i last low here. item_here i last here)

-- ---- the words that items make

pub padded_to-set : (n i v : ℕ) (xs : List ℕ) → i < length xs → padded_to n (slice_set xs i v) ≡ slice_set (padded_to n xs) i v
padded_to-set n i v xs inside = ap (λ (k : ℕ). slice_set xs i v ++ replicate (n - k) 0) (length-set xs i v) ∙ sym (set-append_left xs (replicate (n - length xs) 0) i v inside)

-- all but the parent word
pub row_words-parent : (all slots gaps parent parent' : ℕ) (items : List Item) (c : ℕ) → 0 < c → slice_index (row_words all slots gaps parent' items) c ≡ slice_index (row_words all slots gaps parent items) c
row_words-parent all slots gaps parent parent' items zero above = absurd (omega arith)
row_words-parent all slots gaps parent parent' items (suc c) above = refl

module _ (all slots gaps parent n word : ℕ) (items : List Item) (some : 0 < slots) (used : n < length items) (fit : length items ≤ slots) where
  abbrev front : List ℕ
  front = parent ∷ pivot_words slots items

  abbrev middle : List ℕ
  middle = slot_words slots items

  length-front : length front ≡ slots
  length-front = omega (arith, length-pivots slots items)

  length-middle : length middle ≡ slots
  length-middle = length-padded slots (map (λ (x : Item). x.word) items) (omega (arith, length-map items (λ (x : Item). x.word)))

  middle-put : slot_words slots (put_item n word items) ≡ slice_set middle n word
  middle-put = ap (padded_to slots) (put_item-word n word items) ∙ padded_to-set slots n word (map (λ (x : Item). x.word) items) (omega (arith, length-map items (λ (x : Item). x.word)))

  front-put : front ++ slice_set middle n word ≡ slice_set (front ++ middle) (slot_column slots n) word
  front-put =
      let at : slot_column slots n - slots ≡ n = omega arith in
      ap (λ (k : ℕ). front ++ slice_set middle k word) (sym at) ∙ sym (set-append_right front middle slots (slot_column slots n) word length-front (omega arith))

  inside : slot_column slots n < length (front ++ middle)
  inside = omega (arith, length-append front middle, length-front, length-middle)

  used-put : parent ∷ pivot_words slots (put_item n word items) ++ slot_words slots (put_item n word items) ++ gap_words gaps (put_item n word items)
      ≡ slice_set (front ++ middle ++ gap_words gaps items) (slot_column slots n) word
  used-put =
      (λ i. (parent ∷ padded_to (slots - 1) (take (slots - 1) (put_item-last n word items i))) ++ middle-put i ++ gaps-put i)
      ∙ (ap (λ (l : List ℕ). l ++ gap_words gaps items) front-put ∙ sym (set-append_left (front ++ middle) (gap_words gaps items) (slot_column slots n) word inside))
    where
      gaps-put : gap_words gaps (put_item n word items) ≡ gap_words gaps items
      gaps-put = ap (λ (l : List ℕ). if gaps == 0 then [] else padded_to gaps l) (put_item-gap n word items)

  pub row_words-put : row_words all slots gaps parent (put_item n word items) ≡ slice_set (row_words all slots gaps parent items) (slot_column slots n) word
  row_words-put = ap (padded_to all) used-put ∙ padded_to-set all (slot_column slots n) word (front ++ middle ++ gap_words gaps items) (omega (arith, length-append (front ++ middle) (gap_words gaps items), inside))

  pub row_words-inside : slot_column slots n < length (row_words all slots gaps parent items)
  row_words-inside =
      omega (arith, length-append (front ++ middle) (gap_words gaps items), inside, length-append (front ++ middle ++ gap_words gaps items) (replicate (all - length (front ++ middle ++ gap_words gaps items)) 0))
