-- The parent words and the gap words of rows that are built.
use Rattle.mt_bulk.proofs.Prelude.{◌≡◌, ℕ, zero, suc, ◌+◌, ◌*◌, ◌≤◌, Bool, List, [], ◌∷◌, ◌++◌, length, map, max, refl, sym, ap, ◌∙◌, subst, arith, length-append, append_assoc, slice_index, AllByRecursion, range_with_len, Width, columns, Item, RowKind, end_of, row_words, FitRow, name_at, parent_at, row_in, slots_of, gaps_of, spans_from, row_in-name_at, layout_of, some_columns, length-row_words, Table, column, ParentsFrom, longest_below, greatest_gap, heads, words_of, longest_below-append, longest_none}
use Rattle.mt_bulk.proofs.Placed.{in_middle, next_row}

-- ---- one after another

-- this holds of each, and of the number that is one above that of the one before
abbrev pub HoldFrom : {A : Type 0} → (ℕ → A → Type 0) → ℕ → List A → Type 0
HoldFrom P number [] = Unit {0}
HoldFrom P number (x ∷ xs) = P number x × HoldFrom P (number + 1) xs

pub hold_front : {A : Type 0} (P : ℕ → A → Type 0) (number : ℕ) (xs ys : List A) → HoldFrom P number (xs ++ ys) → HoldFrom P number xs
hold_front P number [] ys holds = tt
hold_front P number (x ∷ xs) ys holds = (holds.0, hold_front P (number + 1) xs ys holds.1)

pub hold_back : {A : Type 0} (P : ℕ → A → Type 0) (number : ℕ) (xs ys : List A) → HoldFrom P number (xs ++ ys) → HoldFrom P (number + length xs) ys
hold_back P number [] ys holds = let same : number ≡ number + zero = omega arith in subst (λ (n : ℕ). HoldFrom P n ys) same holds
hold_back P number (x ∷ xs) ys holds = let same : number + 1 + length xs ≡ number + suc (length xs) = omega arith in subst (λ (n : ℕ). HoldFrom P n ys) same (hold_back P (number + 1) xs ys holds.1)

-- ---- names

abbrev pub IsNamed : RowKind → ℕ → Item → Type 0
IsNamed kind number x = x.word ≡ name_at number kind

abbrev pub AreNamed : RowKind → ℕ → List Item → Type 0
AreNamed kind = HoldFrom (IsNamed kind)

pub heads_named : (gapped : Bool) (kind : RowKind) (first number : ℕ) (rows : List (List Item)) → AreNamed kind number (heads gapped kind first number rows)
heads_named gapped kind first number [] = tt
heads_named gapped kind first number (row ∷ rows) = (refl, heads_named gapped kind (end_of first row + 1) (number + 1) rows)

-- ---- parent words

abbrev pub HasParent : Table → ℕ → ℕ → Type 0
HasParent t number parent = column t number 0 ≡ parent

abbrev pub HaveParents : Table → ℕ → List ℕ → Type 0
HaveParents t = HoldFrom (HasParent t)

-- the rows that are named have the parent words of the slots of a row, from one on
pub parents_from : (t : Table) (kind : RowKind) (number row slot first : ℕ) (items : List Item) → AreNamed kind number items → HaveParents t number (map (parent_at row) (range_with_len slot (length items))) → ParentsFrom t row slot (spans_from first items)
parents_from t kind number row slot first [] named have = tt
parents_from t kind number row slot first (x ∷ items) named have = (
  ap (λ (w : ℕ). column t (row_in w) 0) named.0 ∙ (ap (λ (r : ℕ). column t r 0) (row_in-name_at number kind) ∙ have.0),
  parents_from t kind (number + 1) row (slot + 1) (x.last + 1) items named.1 have.1,
)

-- the parent words of rows that are written
pub have_parents : (width : Width) (kind : RowKind) (number : ℕ) (parents : List ℕ) (rows : List (List Item)) (front back : List ℕ) → length parents ≡ length rows → AllByRecursion (FitRow (slots_of width kind) (gaps_of width kind)) rows
    → length front ≡ columns width * number → HaveParents (record { width = width; words = front ++ (words_of width kind parents rows ++ back) }) number parents
have_parents width kind number [] rows front back same fit at = tt
have_parents width kind number (parent ∷ parents) [] front back same fit at = absurd (omega arith)
have_parents width kind number (parent ∷ parents) (row ∷ rows) front back same fit at =
    let here = row_words (columns width) (slots_of width kind) (gaps_of width kind) parent row in
    let others = words_of width kind parents rows in
    let long = length-row_words (columns width) (slots_of width kind) (gaps_of width kind) parent row (layout_of width kind) fit.0.fit in
    let some = some_columns width in
    let moved : front ++ ((here ++ others) ++ back) ≡ (front ++ here) ++ (others ++ back) = ap (λ (l : List ℕ). front ++ l) (append_assoc here others back) ∙ sym (append_assoc front here (others ++ back)) in
    let next = have_parents width kind (number + 1) parents rows (front ++ here) back (omega arith) fit.1 (omega (arith, length-append front here, long, next_row width number)) in (
      ap (λ (l : List ℕ). slice_index (front ++ l) (columns width * number + 0)) (append_assoc here others back)
          ∙ (ap (λ (n : ℕ). slice_index (front ++ (here ++ (others ++ back))) (n + 0)) (sym at) ∙ in_middle front here (others ++ back) 0 (omega (arith, long, some))),
      subst (λ (w : List ℕ). HaveParents (record { width = width; words = w }) (number + 1) parents) (sym moved) next,
    )

-- ---- the longest holes

-- each item tells the longest hole below it
abbrev pub AreTold : Table → ℕ → ℕ → List Item → Type 0
AreTold t h first [] = Unit {0}
AreTold t h first (x ∷ items) = (x.gap ≡ longest_below t h (record { first = first; last = x.last; word = x.word } ∷ [])) × AreTold t h (x.last + 1) items

pub greatest_told : (t : Table) (h first : ℕ) (items : List Item) → AreTold t h first items → longest_below t h (spans_from first items) ≡ greatest_gap items
greatest_told t h first [] told = longest_none t h
greatest_told t h first (x ∷ items) told =
    let here = told.0 in
    let behind = greatest_told t h (x.last + 1) items told.1 in
    longest_below-append t h (record { first = first; last = x.last; word = x.word } ∷ []) (spans_from (x.last + 1) items) ∙ (λ i. max (sym here i) (behind i))

pub told_front : (t : Table) (h first : ℕ) (xs ys : List Item) → AreTold t h first (xs ++ ys) → AreTold t h first xs
told_front t h first [] ys told = tt
told_front t h first (x ∷ xs) ys told = (told.0, told_front t h (x.last + 1) xs ys told.1)

pub told_back : (t : Table) (h first d : ℕ) (xs ys : List Item) → 1 ≤ length xs → AreTold t h first (xs ++ ys) → AreTold t h (end_of d xs + 1) ys
told_back t h first d [] ys some told = absurd (omega arith)
told_back t h first d (x ∷ []) ys some told = told.1
told_back t h first d (x ∷ y ∷ xs) ys some told = told_back t h (x.last + 1) x.last (y ∷ xs) ys (omega arith) told.1
