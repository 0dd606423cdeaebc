-- Rows are cut one after another: what is behind a place is cut as if nothing stood in front.
use Rattle.mt_bulk.proofs.Prelude.{◌≡◌, ℕ, zero, suc, ◌+◌, ◌-◌, ◌<◌, ◌≤◌, List, [], ◌∷◌, ◌++◌, length, map, replicate, take, drop, refl, sym, ap, ◌∙◌, arith, length-take, length-drop, range_with_len, drop-drop, length-replicate, parent_at, Item, spans_from, Apart, parents_in, cut_by, cut, ends_from, inner_count, inner_size, leaf_size}
use Rattle.mt_bulk.proofs.Sizes.{apart_back, inner_sizes, leaf_sizes}

-- a size of some of the items, and of no more than there are
abbrev pub IsSome : ℕ → List Item → Type 0
IsSome n items = (1 ≤ n) × (n ≤ length items)

module _ (Q : List Item → Type 0) (size : List Item → ℕ) (good : (items : List Item) → 1 ≤ length items → Q items → IsSome (size items) items) (back : (n : ℕ) (items : List Item) → Q items → Q (drop n items)) where
  -- more than enough rows make no difference
  enough : (left more : ℕ) (items : List Item) → Q items → length items ≤ left → length items ≤ more → cut_by size left items ≡ cut_by size more items
  enough zero zero items q one two = refl
  enough zero (suc more) [] q one two = refl
  enough zero (suc more) (x ∷ items) q one two = absurd (omega arith)
  enough (suc left) zero [] q one two = refl
  enough (suc left) zero (x ∷ items) q one two = absurd (omega arith)
  enough (suc left) (suc more) [] q one two = refl
  enough (suc left) (suc more) (x ∷ items) q one two =
      let low = (good (x ∷ items) (omega arith) q).0 in
      let behind = length-drop (size (x ∷ items)) (x ∷ items) in
      ap (λ (l : List (List Item)). take (size (x ∷ items)) (x ∷ items) ∷ l)
      (enough left more (drop (size (x ∷ items)) (x ∷ items)) (back (size (x ∷ items)) (x ∷ items) q) (omega arith) (omega arith))

  pub first_row_cut : (items : List Item) → 1 ≤ length items → Q items → cut size items ≡ take (size items) items ∷ cut size (drop (size items) items)
  first_row_cut [] some q = absurd (omega arith)
  first_row_cut (x ∷ items) some q =
      let low = (good (x ∷ items) some q).0 in
      let behind = length-drop (size (x ∷ items)) (x ∷ items) in
      ap (λ (l : List (List Item)). take (size (x ∷ items)) (x ∷ items) ∷ l)
      (enough (length items) (length (drop (size (x ∷ items)) (x ∷ items))) (drop (size (x ∷ items)) (x ∷ items)) (back (size (x ∷ items)) (x ∷ items) q) (omega arith) (omega arith))

  -- so much of the items is in front, and the next row
  pub next_row_cut : (items : List Item) (at : ℕ) → at < length items → Q items → cut size (drop at items) ≡ take (size (drop at items)) (drop at items) ∷ cut size (drop (at + size (drop at items)) items)
  next_row_cut items at within q =
      let long = length-drop at items in
      first_row_cut (drop at items) (omega arith) (back at items q)
      ∙ ap (λ (l : List Item). take (size (drop at items)) (drop at items) ∷ cut size l) (drop-drop (size (drop at items)) at items)

  pub size_within : (items : List Item) (at : ℕ) → at < length items → Q items → (at < at + size (drop at items)) × (at + size (drop at items) ≤ length items)
  size_within items at within q =
      let long = length-drop at items in
      let s = good (drop at items) (omega arith) (back at items q) in
      let low = s.0 in
      let high = s.1 in
      (omega arith, omega arith)

  pub length_row : (items : List Item) (at : ℕ) → at < length items → Q items → length (take (size (drop at items)) (drop at items)) ≡ size (drop at items)
  length_row items at within q =
      let long = length-drop at items in
      let s = good (drop at items) (omega arith) (back at items q) in
      let high = s.1 in
      omega (arith, length-take (size (drop at items)) (drop at items))

  pub next_end_cut : (items : List Item) (at : ℕ) → at < length items → Q items → ends_from at (cut size (drop at items)) ≡ (at + size (drop at items)) ∷ ends_from (at + size (drop at items)) (cut size (drop (at + size (drop at items)) items))
  next_end_cut items at within q =
      let n = length_row items at within q in
      ap (ends_from at) (next_row_cut items at within q)
      ∙ (λ i. (at + n i) ∷ ends_from (at + n i) (cut size (drop (at + size (drop at items)) items)))

pub none_behind_cut : (size : List Item → ℕ) (items : List Item) (at : ℕ) → length items ≤ at → cut size (drop at items) ≡ []
none_behind_cut size items at past = none (drop at items) (let long = length-drop at items in omega arith)
  where
    none : (l : List Item) → length l ≤ 0 → cut size l ≡ []
    none [] short = refl
    none (x ∷ l) short = absurd (omega arith)

-- ---- leaves

module _ (most : ℕ) (room : 6 ≤ most) where
  abbrev IsApart : List Item → Type 0
  IsApart items = Apart (spans_from 0 items)

  good_leaf : (items : List Item) → 1 ≤ length items → IsApart items → IsSome (leaf_size most items) items
  good_leaf items some apart = let s = leaf_sizes 2 most (omega arith) (omega arith) items some apart in (s.some, s.within)

  back_leaf : (n : ℕ) (items : List Item) → IsApart items → IsApart (drop n items)
  back_leaf n items apart = apart_back items 0 n apart

  pub next_leaf_end : (items : List Item) (at : ℕ) → at < length items → IsApart items → ends_from at (cut (leaf_size most) (drop at items)) ≡ (at + leaf_size most (drop at items)) ∷ ends_from (at + leaf_size most (drop at items)) (cut (leaf_size most) (drop (at + leaf_size most (drop at items)) items))
  next_leaf_end items at within apart = next_end_cut IsApart (leaf_size most) good_leaf back_leaf items at within apart

  pub leaf_within : (items : List Item) (at : ℕ) → at < length items → IsApart items → (at < at + leaf_size most (drop at items)) × (at + leaf_size most (drop at items) ≤ length items)
  leaf_within items at within apart = size_within IsApart (leaf_size most) good_leaf back_leaf items at within apart

-- ---- inner rows

module _ (most : ℕ) (two : 2 ≤ most) where
  abbrev Anyhow : List Item → Type 0
  Anyhow items = Unit {0}

  good_inner : (items : List Item) → 1 ≤ length items → Anyhow items → IsSome (inner_size most items) items
  good_inner items some q = let s = inner_sizes 1 most two (omega arith) items some in (s.some, s.within)

  pub next_inner_row : (items : List Item) (at : ℕ) → at < length items → cut (inner_size most) (drop at items) ≡ take (inner_size most (drop at items)) (drop at items) ∷ cut (inner_size most) (drop (at + inner_size most (drop at items)) items)
  next_inner_row items at within = next_row_cut Anyhow (inner_size most) good_inner (λ n l q. tt) items at within tt

  pub next_inner_end : (items : List Item) (at : ℕ) → at < length items → ends_from at (cut (inner_size most) (drop at items)) ≡ (at + inner_size most (drop at items)) ∷ ends_from (at + inner_size most (drop at items)) (cut (inner_size most) (drop (at + inner_size most (drop at items)) items))
  next_inner_end items at within = next_end_cut Anyhow (inner_size most) good_inner (λ n l q. tt) items at within tt

  pub inner_within : (items : List Item) (at : ℕ) → at < length items → (at < at + inner_size most (drop at items)) × (at + inner_size most (drop at items) ≤ length items)
  inner_within items at within = size_within Anyhow (inner_size most) good_inner (λ n l q. tt) items at within tt

  pub length_inner : (items : List Item) (at : ℕ) → at < length items → length (take (inner_size most (drop at items)) (drop at items)) ≡ inner_size most (drop at items)
  length_inner items at within = length_row Anyhow (inner_size most) good_inner (λ n l q. tt) items at within tt

  -- the size of what is behind a place, by its number
  pub inner_behind : (items : List Item) (at count : ℕ) → length items ≡ count → inner_size most (drop at items) ≡ inner_count most (count - at)
  inner_behind items at count same = ap (inner_count most) (length-drop at items ∙ ap (λ (n : ℕ). n - at) same)

  pub ends_onward : (items : List Item) (count at k : ℕ) → length items ≡ count → at < count → k ≡ inner_count most (count - at)
      → ends_from at (cut (inner_size most) (drop at items)) ≡ (at + k) ∷ ends_from (at + k) (cut (inner_size most) (drop (at + k) items))
  ends_onward items count at k long within size =
      let same : at + inner_size most (drop at items) ≡ at + k = ap (λ (n : ℕ). at + n) (inner_behind items at count long ∙ sym size) in
      next_inner_end items at (omega arith) ∙ (λ i. same i ∷ ends_from (same i) (cut (inner_size most) (drop (same i) items)))

  pub parents_onward : (items : List Item) (count at k row : ℕ) → length items ≡ count → at < count → k ≡ inner_count most (count - at)
      → parents_in row (cut (inner_size most) (drop at items)) ≡ map (parent_at row) (range_with_len 0 k) ++ parents_in (row + 1) (cut (inner_size most) (drop (at + k) items))
  parents_onward items count at k row long within size =
      let same : inner_size most (drop at items) ≡ k = inner_behind items at count long ∙ sym size in
      let n = length_inner items at (omega arith) ∙ same in
      ap (parents_in row) (next_inner_row items at (omega arith))
      ∙ (λ i. map (parent_at row) (range_with_len 0 (n i)) ++ parents_in (row + 1) (cut (inner_size most) (drop (at + same i) items)))

  pub count_within : (count at : ℕ) → at < count → (at < at + inner_count most (count - at)) × (at + inner_count most (count - at) ≤ count)
  count_within count at within =
      let items = replicate count none in
      let long : length items ≡ count = length-replicate count none in
      let inside = inner_within items at (omega arith) in
      let same = inner_behind items at count long in
      let low = inside.0 in
      let high = inside.1 in
      (omega arith, omega arith)
    where
      none : Item
      none = record { last = 0; word = 0; gap = 0 }
