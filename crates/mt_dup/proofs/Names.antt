-- The names that the walk of a copy comes to, and what it leaves of them.
use Rattle.mt_dup.proofs.Prelude.{◌≡◌, ◌≢◌, ℕ, zero, suc, ◌+◌, ◌-◌, ◌*◌, ◌%◌, ◌<◌, ◌≤◌, List, [], ◌∷◌, ◌++◌, Some, None, length, take, drop, refl, sym, ap, ◌∙◌, subst, arith, append-nil, length-append, length-take, length-drop, slice_index, flat_map, slice_range, take_more, take_all, get_or-take, get_or-drop, flat_map-append, Width, columns, first_row, RowKind, Leaf, Inner, Gapped, slot_column, row_in, named_kind, name_at, kind_number, parent_at, slots_of, Names-named_kind, row_within, some_columns, slots_of-columns, slot_within, Table, base_of, column, names_of, with_new_row, IsRowCopy, names_by, names_from, ParentsAre, AreNumbered, AreCopied}

-- ---- lists, by index

pub parents_at : (t : Table) (row slot : ℕ) (words : List ℕ) (i : ℕ) → ParentsAre t row slot words → i < length words → slice_index words i ≢ 0 → column t (row_in (slice_index words i)) 0 ≡ parent_at row (slot + i)
parents_at t row slot [] i each within some = absurd (omega arith)
parents_at t row slot (x ∷ words) zero each within some = each.0 some ∙ (let same : slot ≡ slot + 0 = omega arith in ap (parent_at row) same)
parents_at t row slot (x ∷ words) (suc i) each within some = parents_at t row (slot + 1) words i each.1 (omega arith) some ∙ (let same : slot + 1 + i ≡ slot + suc i = omega arith in ap (parent_at row) same)

-- what the first i elements give, and one more
pub more_done : (f : ℕ → List ℕ) (words : List ℕ) (i : ℕ) → i < length words → flat_map f (take (i + 1) words) ≡ flat_map f (take i words) ++ f (slice_index words i)
more_done f words i within =
    ap (flat_map f) (take_more words i 0 within)
    ∙ (flat_map-append f (take i words) (slice_index words i ∷ [])
    ∙ ap (λ (l : List ℕ). flat_map f (take i words) ++ l) (append-nil (f (slice_index words i))))

pub all_done : (f : ℕ → List ℕ) (words : List ℕ) (i : ℕ) → length words ≤ i → flat_map f (take i words) ≡ flat_map f words
all_done f words i past = ap (flat_map f) (take_all i words past)

-- what is done is not more than all
pub done_most : (f : ℕ → List ℕ) (words : List ℕ) (i : ℕ) → i < length words → length (flat_map f (take i words)) + length (f (slice_index words i)) ≤ length (flat_map f words)
done_most f [] i within = absurd (omega arith)
done_most f (x ∷ words) zero within = omega (arith, length-append (f x) (flat_map f words))
done_most f (x ∷ words) (suc i) within =
    let behind = done_most f words i (omega arith) in
    omega (arith, behind, length-append (f x) (flat_map f words), length-append (f x) (flat_map f (take i words)))

-- ---- the words in the slots of an inner row

module _ (w : List ℕ) (base slots : ℕ) (within : base + 2 * slots ≤ length w) where
  abbrev words : List ℕ
  words = slice_range w (base + slots) (base + 2 * slots)

  words_long : length words ≡ slots
  words_long = omega (arith, within, length-take (base + 2 * slots - (base + slots)) (drop (base + slots) w), length-drop (base + slots) w)

  words_at : (i : ℕ) → i < slots → slice_index words i ≡ slice_index w (base + (slots + i))
  words_at i inside =
      let same : base + slots + i ≡ base + (slots + i) = omega arith in
      get_or-take (base + 2 * slots - (base + slots)) (drop (base + slots) w) i 0 (omega arith)
      ∙ (get_or-drop (base + slots) w i 0 ∙ ap (slice_index w) same)

module _ (t : Table) (kind : RowKind) (row rows : ℕ) (has : length t.words ≡ columns t.width * (first_row + rows)) (inner : kind ≢ Leaf) (inside : row < first_row + rows) where
  fit : (kind : RowKind) → base_of t row + 2 * slots_of t.width kind ≤ length t.words
  fit kind = omega (arith, has, row_within t.width row (first_row + rows) inside, slots_of-columns t.width kind)

  pub names_long : length (names_of t row kind) ≡ slots_of t.width kind
  names_long = by kind inner
    where
      by : (kind : RowKind) → kind ≢ Leaf → length (names_of t row kind) ≡ slots_of t.width kind
      by Leaf inner = absurd (inner refl)
      by Inner inner = words_long t.words (base_of t row) (slots_of t.width Inner) (fit Inner)
      by Gapped inner = words_long t.words (base_of t row) (slots_of t.width Gapped) (fit Gapped)

  pub names_at : (i : ℕ) → i < slots_of t.width kind → slice_index (names_of t row kind) i ≡ column t row (slot_column (slots_of t.width kind) i)
  names_at i slot = by kind inner slot
    where
      by : (kind : RowKind) → kind ≢ Leaf → i < slots_of t.width kind → slice_index (names_of t row kind) i ≡ column t row (slot_column (slots_of t.width kind) i)
      by Leaf inner slot = absurd (inner refl)
      by Inner inner slot = words_at t.words (base_of t row) (slots_of t.width Inner) (fit Inner) i slot
      by Gapped inner slot = words_at t.words (base_of t row) (slots_of t.width Gapped) (fit Gapped) i slot

pub names_deeper : (t : Table) (depth word : ℕ) → 0 < depth → names_from t depth word ≡ names_by (names_from t (depth - 1)) t word (named_kind word)
unfolding names_from
names_deeper t zero word deep = absurd (omega arith)
names_deeper t (suc depth) word deep = let same : depth ≡ suc depth - 1 = omega arith in ap (λ (n : ℕ). names_by (names_from t n) t word (named_kind word)) same

-- no names where a word is none
pub names_none : (t : Table) (depth word : ℕ) → named_kind word ≡ None → names_from t depth word ≡ []
unfolding names_from
names_none t zero word none = refl
names_none t (suc depth) word none = ap (names_by (names_from t depth) t word) none

-- ---- new numbers

pub numbered_front : (number : ℕ → ℕ) (from : ℕ) (xs ys : List ℕ) → AreNumbered number from (xs ++ ys) → AreNumbered number from xs
numbered_front number from [] ys each = tt
numbered_front number from (x ∷ xs) ys each = (each.0, numbered_front number (from + 1) xs ys each.1)

pub numbered_back : (number : ℕ → ℕ) (from to : ℕ) (xs ys : List ℕ) → to ≡ from + length xs → AreNumbered number from (xs ++ ys) → AreNumbered number to ys
numbered_back number from to [] ys behind each = let same : from ≡ to = omega arith in subst (λ (n : ℕ). AreNumbered number n ys) same each
numbered_back number from to (x ∷ xs) ys behind each = numbered_back number (from + 1) to xs ys (omega arith) each.1

-- the parent word of a slot
pub renamed_parent : (number : ℕ → ℕ) (row slot : ℕ) → slot < 256 → with_new_row number (parent_at row slot) ≡ parent_at (number row) slot
renamed_parent number row slot low =
    let row_is : row_in (parent_at row slot) ≡ row = omega arith in
    let slot_is : parent_at row slot % 256 ≡ slot = omega arith in
    λ i. parent_at (number (row_is i)) (slot_is i)

-- the new name of a row, as one of its kind
pub renamed_name : (number : ℕ → ℕ) (word : ℕ) (kind : RowKind) → named_kind word ≡ Some kind → with_new_row number word ≡ name_at (number (row_in word)) kind
renamed_name number word kind named = ap (parent_at (number (row_in word))) (low_byte kind (Names-named_kind word kind named).1)
  where
    low_byte : (kind : RowKind) → word ≡ name_at (row_in word) kind → word % 256 ≡ 8 * kind_number kind + 4
    low_byte Leaf is = omega (arith, is)
    low_byte Inner is = omega (arith, is)
    low_byte Gapped is = omega (arith, is)

-- ---- copies stay while other rows are written

-- no row with these numbers has changed
abbrev pub SameFrom : Table → Table → ℕ → ℕ → Type 0
SameFrom t t' from to = (row c : ℕ) → from ≤ row → row < to → c < columns t.width → column t' row c ≡ column t row c

module _ (number : ℕ → ℕ) (t d d' : Table) where
  row_stays : (kind : RowKind) (row : ℕ) → d'.width ≡ d.width → ((c : ℕ) → c < columns d.width → column d' (number row) c ≡ column d (number row) c) → IsRowCopy number t d kind row → IsRowCopy number t d' kind row
  row_stays kind row width same copy =
      let wide : (c : ℕ) → c < columns t.width → c < columns d.width = λ c within. subst (λ (v : Width). c < columns v) (sym copy.width) within in
      record {
        width = width ∙ copy.width;
        parent = same 0 (some_columns d.width) ∙ copy.parent;
        pivots = λ c some within. same c (wide c (omega (arith, within, slots_of-columns t.width kind))) ∙ copy.pivots c some within;
        slots = λ i within. same (slot_column (slots_of t.width kind) i) (wide (slot_column (slots_of t.width kind) i) (slot_within t.width kind i within)) ∙ copy.slots i within;
        behind = λ c from within. same c (wide c within) ∙ copy.behind c from within;
      }

  pub copies_stay : (words : List ℕ) (from to : ℕ) → d'.width ≡ d.width → to ≡ from + length words → AreNumbered number from words → SameFrom d d' from to → AreCopied number t d words → AreCopied number t d' words
  copies_stay [] from to width many numbered same copied = tt
  copies_stay (x ∷ words) from to width many numbered same copied = (
    λ kind named. row_stays kind (row_in x) width (λ c within. let here = numbered.0 in same (number (row_in x)) c (omega arith) (omega arith) within) (copied.0 kind named),
    copies_stay words (from + 1) to width (omega arith) numbered.1 (λ row c above below within. same row c (omega arith) below within) copied.1,
  )
