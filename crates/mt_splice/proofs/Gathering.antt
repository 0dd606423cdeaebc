-- The items of a row behind a slot.
use Rattle.mt_splice.proofs.Prelude.{◌≡◌, ℕ, zero, suc, ◌+◌, ◌-◌, ◌<◌, ◌≤◌, List, [], length, take, drop, nat_le, refl, sym, ap, ◌∙◌, arith, inl, inr, slice_index, cases_Bool, take_all, length-take, drop_of_length-le, Item, RowKind, items_from, pivot_column, few_items, Table, base_of, slots_of, gaps_of, items_of_row}

module _ (slots gaps : ℕ) (w : List ℕ) (base max : ℕ) where
  pub drop_from : (k left i : ℕ) → k < length (items_from slots gaps w base max left i) → drop k (items_from slots gaps w base max left i) ≡ items_from slots gaps w base max (left - k) (i + k)
  drop_from zero left i below = let same : i + 0 ≡ i = omega arith in let all : left - 0 ≡ left = omega arith in rw (same, all) refl
  drop_from (suc k) zero i below = absurd (omega arith)
  drop_from (suc k) (suc zero) i below = absurd (omega arith)
  drop_from (suc k) (suc (suc left)) i below = elim (cases_Bool (nat_le max (slice_index w (base + pivot_column i)))) [
    | inl last ↦ let one : suc k < 1 = rw last at below in absurd (omega arith)
    | inr more ↦
        let rest : suc k < suc (length (items_from slots gaps w base max (suc left) (i + 1))) = rw more at below in
        let place : (i + 1) + k ≡ i + suc k = omega arith in
        let count : suc left - k ≡ suc (suc left) - suc k = omega arith in
        rw more (drop_from k (suc left) (i + 1) (omega arith) ∙ (λ j. items_from slots gaps w base max (count j) (place j)))
  ]

  pub items_behind : (k n : ℕ) → k < length (items_from slots gaps w base max slots 0) → slots ≤ n + k
      → take n (items_from slots gaps w base max (slots - k) k) ≡ drop k (items_from slots gaps w base max slots 0)
  items_behind k n below all =
      let few = few_items slots gaps w base max (slots - k) k in
      let place : k ≡ 0 + k = omega arith in
      take_all n (items_from slots gaps w base max (slots - k) k) (omega arith)
      ∙ (ap (items_from slots gaps w base max (slots - k)) place ∙ sym (drop_from k slots 0 below))

-- the items up to a slot are not more than its number
pub items_ahead : (k : ℕ) (xs : List Item) → length (take k xs) ≤ k
items_ahead k xs = let n = length-take k xs in omega arith

-- ---- of a row of a table

pub behind_slot : (t : Table) (kind : RowKind) (row max k : ℕ) → k < length (items_of_row t kind row max)
    → take (slots_of t.width kind - k) (items_from (slots_of t.width kind) (gaps_of t.width kind) t.words (base_of t row) max (slots_of t.width kind - k) k) ≡ drop k (items_of_row t kind row max)
behind_slot t kind row max k below =
    let few = few_items (slots_of t.width kind) (gaps_of t.width kind) t.words (base_of t row) max (slots_of t.width kind) 0 in
    items_behind (slots_of t.width kind) (gaps_of t.width kind) t.words (base_of t row) max k (slots_of t.width kind - k) below (omega arith)

-- a row has no more items than slots, and those in its slots are all
pub few_in_row : (t : Table) (kind : RowKind) (row max : ℕ) → length (items_of_row t kind row max) ≤ slots_of t.width kind
few_in_row t kind row max = few_items (slots_of t.width kind) (gaps_of t.width kind) t.words (base_of t row) max (slots_of t.width kind) 0

pub whole_row : (t : Table) (kind : RowKind) (row max slots : ℕ) → slots ≡ slots_of t.width kind
    → take (slots - 0) (items_from (slots_of t.width kind) (gaps_of t.width kind) t.words (base_of t row) max (slots_of t.width kind - 0) 0) ≡ items_of_row t kind row max
whole_row t kind row max slots is =
    let few = few_in_row t kind row max in
    let all : slots_of t.width kind - 0 ≡ slots_of t.width kind = omega arith in
    ap (λ (n : ℕ). take (slots - 0) (items_from (slots_of t.width kind) (gaps_of t.width kind) t.words (base_of t row) max n 0)) all
    ∙ take_all (slots - 0) (items_of_row t kind row max) (omega arith)

pub none_behind : (k : ℕ) (xs : List Item) → length xs ≤ k → drop k xs ≡ []
none_behind k xs past = drop_of_length-le xs past
