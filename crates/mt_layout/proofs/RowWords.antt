-- What the words of a row are, column by column.
use Rattle.mt_layout.proofs.Prelude.{◌≡◌, ℕ, zero, suc, ◌+◌, ◌-◌, ◌*◌, ◌<◌, ◌≤◌, ◌==◌, List, [], ◌∷◌, ◌++◌, map, take, length, replicate, get_or, refl, sym, ap, ◌∙◌, ⊎_elim, arith, length-append, length-take, false, ne_eqb, cases_lt, cases_eq, get_or_append_left, get_or-append_right, get_or-take, ext_get_or, length-map, length-replicate, Item, IsLayout, pivot_column, slot_column, gap_column, padded_to, pivot_words, slot_words, gap_words, row_words}
use Rattle.mt_layout.proofs.RowSizes.{some_slots, slots-fit, all_gaps}

-- item k, and one of zeros where there is none
abbrev pub item_or : List Item → ℕ → Item
item_or items k = get_or items k (record { last = 0; word = 0; gap = 0 })

-- ---- zeros behind a list

pub get_or-zeros : (m k : ℕ) → get_or (replicate {A = ℕ} m 0) k 0 ≡ 0
get_or-zeros zero k = refl
get_or-zeros (suc m) zero = refl
get_or-zeros (suc m) (suc k) = get_or-zeros m k

pub get_or-padded : (xs : List ℕ) (m k : ℕ) → get_or (xs ++ replicate m 0) k 0 ≡ get_or xs k 0
get_or-padded [] m k = get_or-zeros m k
get_or-padded (x ∷ xs) m zero = refl
get_or-padded (x ∷ xs) m (suc k) = get_or-padded xs m k

pub length-padded : (n : ℕ) (xs : List ℕ) → length xs ≤ n → length (padded_to n xs) ≡ n
length-padded n xs h = omega (arith, length-append xs (replicate (n - length xs) 0), length-replicate {A = ℕ} (n - length xs) 0)

pub get_or-field : (f : Item → ℕ) → f (record { last = 0; word = 0; gap = 0 }) ≡ 0 → (items : List Item) (k : ℕ) → get_or (map f items) k 0 ≡ f (item_or items k)
get_or-field f z [] k = sym z
get_or-field f z (x ∷ items) zero = refl
get_or-field f z (x ∷ items) (suc k) = get_or-field f z items k

-- ---- the parts of a row

get_or-pivots : (slots : ℕ) (items : List Item) (k : ℕ) → k + 1 < slots → get_or (pivot_words slots items) k 0 ≡ (item_or items k).last
get_or-pivots slots items k h =
    get_or-padded (take (slots - 1) (map (λ x. x.last) items)) _ k
    ∙ (get_or-take (slots - 1) (map (λ x. x.last) items) k 0 (omega arith)
    ∙ get_or-field (λ x. x.last) refl items k)

pub length-pivots : (slots : ℕ) (items : List Item) → length (pivot_words slots items) ≡ slots - 1
length-pivots slots items = length-padded (slots - 1) (take (slots - 1) (map (λ x. x.last) items)) (omega (arith, length-take (slots - 1) (map (λ x. x.last) items)))

pub length-slots : (slots : ℕ) (items : List Item) → length items ≤ slots → length (slot_words slots items) ≡ slots
length-slots slots items fit = length-padded slots (map (λ x. x.word) items) (omega (arith, length-map items (λ x. x.word)))

gap_words-some : (gaps : ℕ) (items : List Item) → 0 < gaps → gap_words gaps items ≡ padded_to gaps (map (λ x. x.gap) items)
gap_words-some gaps items h =
    let some : (gaps == 0) ≡ false = ne_eqb gaps 0 (λ e. omega (arith, e)) in
    rw some refl

get_or-gaps : (gaps : ℕ) (items : List Item) (k : ℕ) → k < gaps → get_or (gap_words gaps items) k 0 ≡ (item_or items k).gap
get_or-gaps gaps items k h =
    ap (λ (xs : List ℕ). get_or xs k 0) (gap_words-some gaps items (omega arith))
    ∙ (get_or-padded (map (λ x. x.gap) items) _ k ∙ get_or-field (λ x. x.gap) refl items k)

length-gaps : (gaps : ℕ) (items : List Item) → (0 < gaps → length items ≤ gaps) → length (gap_words gaps items) ≡ gaps
length-gaps zero items fit = refl
length-gaps (suc gaps) items fit =
    ap length (gap_words-some (suc gaps) items (omega arith))
    ∙ length-padded (suc gaps) (map (λ x. x.gap) items) (omega (arith, fit (omega arith), length-map items (λ x. x.gap)))

module _ (words slots gaps parent : ℕ) (items : List Item) (layout : IsLayout words slots gaps) (fit : length items ≤ slots) where
  abbrev front : List ℕ
  front = parent ∷ pivot_words slots items

  abbrev pub used : List ℕ
  used = front ++ slot_words slots items ++ gap_words gaps items

  length-front : length front ≡ slots
  length-front = omega (arith, length-pivots slots items, some_slots words slots gaps layout)

  length-middle : length (front ++ slot_words slots items) ≡ 2 * slots
  length-middle = omega (arith, length-append front (slot_words slots items), length-front, length-slots slots items fit)

  length-end : length (gap_words gaps items) ≡ gaps
  length-end = length-gaps gaps items (λ some. omega (arith, all_gaps words slots gaps layout some))

  pub length-used : length used ≡ 2 * slots + gaps
  length-used = omega (arith, length-append (front ++ slot_words slots items) (gap_words gaps items), length-middle, length-end)

  pub length-row_words : length (row_words words slots gaps parent items) ≡ words
  length-row_words = length-padded words used (omega (arith, length-used, slots-fit words slots gaps layout))

  pub used-pivot : (k : ℕ) → k + 1 < slots → get_or used (pivot_column k) 0 ≡ (item_or items k).last
  used-pivot k h =
      let here : pivot_column k ≡ suc k = omega arith in
      get_or_append_left (front ++ slot_words slots items) (gap_words gaps items) 0 (pivot_column k) (omega (arith, length-middle))
      ∙ (get_or_append_left front (slot_words slots items) 0 (pivot_column k) (omega (arith, length-front))
      ∙ (ap (λ (c : ℕ). get_or front c 0) here ∙ get_or-pivots slots items k h))

  pub used-slot : (k : ℕ) → k < slots → get_or used (slot_column slots k) 0 ≡ (item_or items k).word
  used-slot k h =
      let here : slot_column slots k - slots ≡ k = omega arith in
      get_or_append_left (front ++ slot_words slots items) (gap_words gaps items) 0 (slot_column slots k) (omega (arith, length-middle))
      ∙ (get_or-append_right front (slot_words slots items) slots (slot_column slots k) 0 length-front (omega arith)
      ∙ (ap (λ (c : ℕ). get_or (slot_words slots items) c 0) here
      ∙ (get_or-padded (map (λ x. x.word) items) _ k ∙ get_or-field (λ x. x.word) refl items k)))

  pub used-gap : (k : ℕ) → k < gaps → get_or used (gap_column slots k) 0 ≡ (item_or items k).gap
  used-gap k h =
      let here : gap_column slots k - 2 * slots ≡ k = omega arith in
      get_or-append_right (front ++ slot_words slots items) (gap_words gaps items) (2 * slots) (gap_column slots k) 0 length-middle (omega arith)
      ∙ (ap (λ (c : ℕ). get_or (gap_words gaps items) c 0) here ∙ get_or-gaps gaps items k h)

  -- no column holds anything else
  pub is_used : (w : List ℕ) → length w ≡ 2 * slots + gaps → get_or w 0 0 ≡ parent
      → ((k : ℕ) → k + 1 < slots → get_or w (pivot_column k) 0 ≡ (item_or items k).last)
      → ((k : ℕ) → k < slots → get_or w (slot_column slots k) 0 ≡ (item_or items k).word)
      → ((k : ℕ) → k < gaps → get_or w (gap_column slots k) 0 ≡ (item_or items k).gap)
      → w ≡ used
  is_used w long first pivots slot_is gap_is =
      let column : (c : ℕ) → c < 2 * slots + gaps → get_or w c 0 ≡ get_or used c 0 = λ c within.
      ⊎_elim (λ (low : c < slots).
      ⊎_elim (λ (at : c ≡ 0). rw at first)
      (λ (inner : c ≡ 0 → ⊥). let e : pivot_column (c - 1) ≡ c = omega arith in rw e at (pivots (c - 1) (omega arith) ∙ sym (used-pivot (c - 1) (omega arith))))
      (cases_eq c 0))
      (λ (high : slots ≤ c).
      ⊎_elim (λ (low : c < 2 * slots). let e : slot_column slots (c - slots) ≡ c = omega arith in rw e at (slot_is (c - slots) (omega arith) ∙ sym (used-slot (c - slots) (omega arith))))
      (λ (end : 2 * slots ≤ c). let e : gap_column slots (c - 2 * slots) ≡ c = omega arith in rw e at (gap_is (c - 2 * slots) (omega arith) ∙ sym (used-gap (c - 2 * slots) (omega arith))))
      (cases_lt c (2 * slots)))
      (cases_lt c slots) in
      ext_get_or 0 w used (long ∙ sym length-used) (λ c h. column c (omega arith))
