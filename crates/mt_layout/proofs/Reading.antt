-- How the items of a row are read off its words, one after another.
use Rattle.mt_layout.proofs.Prelude.{◌≡◌, ℕ, zero, suc, ◌+◌, ◌-◌, ◌<◌, ◌≤◌, true, false, List, [], ◌∷◌, ◌++◌, length, refl, sym, ◌∙◌, inl, inr, arith, append-nil, append_assoc, lt-ltb, le-ltb, le-leb, ◌==◌, eq-eqb, ne_eqb, cases_Bool, lt-leb, if◌then◌else◌, nat_lt, nat_le, slice_index, Item, pivot_column, gap_column, gap_at, item_at, items_from}

-- a row without gaps has none, and another's are in its columns
pub gap_at-none : (slots gaps : ℕ) (w : List ℕ) (base i : ℕ) → gaps ≡ 0 → gap_at slots gaps w base i ≡ 0
gap_at-none slots gaps w base i none = let test : (gaps == 0) ≡ true = eq-eqb gaps 0 none in rw test refl

pub gap_at-some : (slots gaps : ℕ) (w : List ℕ) (base i : ℕ) → (gaps ≡ 0 → ⊥) → gap_at slots gaps w base i ≡ slice_index w (base + gap_column slots i)
gap_at-some slots gaps w base i some = let test : (gaps == 0) ≡ false = ne_eqb gaps 0 some in rw test refl

module _ (slots gaps : ℕ) (w : List ℕ) (base max : ℕ) where
  -- how many items there are
  pub few_items : (left i : ℕ) → length (items_from slots gaps w base max left i) ≤ left
  few_items zero i = omega arith
  few_items (suc zero) i = omega arith
  few_items (suc (suc left)) i = elim (cases_Bool (nat_le max (slice_index w (base + pivot_column i)))) [
    | inl last ↦ rw last (omega arith)
    | inr more ↦ let rest = few_items (suc left) (i + 1) in rw more (omega arith)
  ]

  pub some_items : (left i : ℕ) → 1 ≤ left → 1 ≤ length (items_from slots gaps w base max left i)
  some_items zero i some = absurd (omega arith)
  some_items (suc zero) i some = omega arith
  some_items (suc (suc left)) i some = elim (cases_Bool (nat_le max (slice_index w (base + pivot_column i)))) [ inl last ↦ rw last (omega arith) | inr more ↦ rw more (omega arith) ]

  abbrev pivot : ℕ → ℕ
  pivot i = slice_index w (base + pivot_column i)

  abbrev rest : ℕ → List Item
  rest i = items_from slots gaps w base max (slots - i) i

  -- x is item i of a row that has more items or ends there
  abbrev pub IsItem : ℕ → Item → Type 0
  IsItem i x = (x ≡ item_at slots gaps w base i x.last) × (x.last ≡ (if nat_lt (i + 1) slots then pivot i else max))

  -- no item follows the one that reaches the end
  pub ends : (left i : ℕ) (x : Item) → left + i ≡ slots → 0 < left → IsItem i x → max ≤ x.last → items_from slots gaps w base max left i ≡ x ∷ []
  ends zero i x s h is reaches = absurd (omega arith)
  ends (suc zero) i x s h is reaches =
      let last : nat_lt (i + 1) slots ≡ false = le-ltb (i + 1) slots (omega arith) in
      let at_max : x.last ≡ max = rw last at is.1 in
      rw (is.0, at_max) refl
  ends (suc (suc left)) i x s h is reaches =
      let inner : nat_lt (i + 1) slots ≡ true = lt-ltb (i + 1) slots (omega arith) in
      let at_pivot : x.last ≡ pivot i = rw inner at is.1 in
      let test : nat_le max (pivot i) ≡ true = le-leb max (pivot i) (omega arith) in
      rw (is.0, at_pivot, test) refl

  -- behind an item that does not, the others follow
  pub goes_on : (left i : ℕ) (x : Item) → suc left + i ≡ slots → IsItem i x → x.last < max → items_from slots gaps w base max (suc left) i ≡ x ∷ items_from slots gaps w base max left (i + 1)
  goes_on zero i x s is below =
      let last : nat_lt (i + 1) slots ≡ false = le-ltb (i + 1) slots (omega arith) in
      let at_max : x.last ≡ max = rw last at is.1 in
      absurd (omega arith)
  goes_on (suc left) i x s is below =
      let inner : nat_lt (i + 1) slots ≡ true = lt-ltb (i + 1) slots (omega arith) in
      let at_pivot : x.last ≡ pivot i = rw inner at is.1 in
      let test : nat_le max (pivot i) ≡ false = lt-leb max (pivot i) (omega arith) in
      rw (is.0, at_pivot, test) refl

  -- the row ends with item i
  pub read_last : (items all : List Item) (i : ℕ) (x : Item) → items ++ rest i ≡ all → i < slots → IsItem i x → max ≤ x.last → items ++ x ∷ [] ≡ all
  read_last items all i x so_far here is reaches = rw (ends (slots - i) i x (omega arith) (omega arith) is reaches) at so_far

  -- the row goes on behind item i
  pub read_more : (items all : List Item) (i : ℕ) (x : Item) → items ++ rest i ≡ all → i < slots → IsItem i x → x.last < max → (items ++ x ∷ []) ++ rest (i + 1) ≡ all
  read_more items all i x so_far here is below =
      let left : slots - i ≡ suc (slots - (i + 1)) = omega arith in
      rw append_assoc (rw (left, goes_on (slots - (i + 1)) i x (omega arith) is below) at so_far)

  -- the row has no more slots
  pub read_all : (items all : List Item) (i : ℕ) → items ++ rest i ≡ all → slots ≤ i → items ≡ all
  read_all items all i so_far past =
      let none : slots - i ≡ 0 = omega arith in
      sym (append-nil items) ∙ (rw none at so_far)
