-- What a store leaves of the ranges beside it, and what then holds its first index.
use Rattle.mt_list.proofs.Prelude.{◌≡◌, ℕ, ◌+◌, ◌-◌, ◌<◌, ◌≤◌, ◌==◌, ◌⊎◌, true, false, List, [], ◌∷◌, ◌++◌, Some, min, map, nat_lt, nat_le, refl, ap, ◌∙◌, inl, inr, arith, AllByRecursion, cases_lt, cond_both, and_right, or_parts, lt-ltb, le-ltb, ltb-true, lt-leb, le-leb, Range, IsMapFrom, holds, holding, overlaps, is_held, over, cut_below, parts_below, parts_above, part_stored}
use Rattle.mt_list.proofs.StoreAtPlaces.{all_parts_above, no_part_below}

-- ---- ranges beside some indexes

-- the range lies below the indexes `a` to `b`, or above them
abbrev pub Outside : ℕ → ℕ → Range → Type 0
Outside a b r = (r.first ≤ r.last) × ((r.last < a) ⊎ (b < r.first))

clear : (a b : ℕ) (r : Range) → overlaps a b r ≡ false → (r.last < a) ⊎ (b < r.first)
clear a b r none = elim (cases_lt r.last a) [
  | inl below ↦ inl below
  | inr reaches ↦ elim (cases_lt b r.first) [
    | inl above ↦ inr above
    | inr begins ↦ absurd (let met : overlaps a b r ≡ true = rw (le-leb r.first b begins, le-leb a r.last reaches) refl in cc)
  ]
]

-- all ranges, where the indexes are a hole
pub outside_hole : (m : List Range) (low a b : ℕ) → IsMapFrom low m → is_held m a b ≡ false → AllByRecursion (Outside a b) m
outside_hole [] low a b ordered none = tt
outside_hole (r ∷ m) low a b ordered none =
    let parts = or_parts (overlaps a b r) (is_held m a b) none in
    ((ordered.1, clear a b r parts.0), outside_hole m (r.last + 1) a b ordered.3 parts.1)

-- ---- ranges beside a store

-- a range below the store stays
pub store_behind : (r : Range) (m : List Range) (first last entry : ℕ) → r.first ≤ r.last → r.last < first → first ≤ last → over (r ∷ m) first last entry ≡ r ∷ over m first last entry
store_behind r m first last entry order below le =
    let ends : min r.last (first - 1) ≡ r.last = omega arith in
    let same : cut_below first r ≡ r = ap (λ (n : ℕ). record { first = r.first; last = n; entry = r.entry }) ends in
    rw (lt-ltb r.first first (omega arith), le-ltb last r.last (omega arith)) (ap (λ (x : Range). x ∷ over m first last entry) same)

store_before : (m : List Range) (low first last entry : ℕ) → first ≤ low → last < low → IsMapFrom low m → over m first last entry ≡ part_stored first last entry ++ m
store_before m low first last entry le lt ordered =
    let below = no_part_below m low first le ordered in
    let above = all_parts_above m low last lt ordered in
    λ i. below i ++ (part_stored first last entry ++ above i)

-- a store of no entry where nothing is held changes nothing
pub store_none_beside : (m : List Range) (low first last : ℕ) → first ≤ last → IsMapFrom low m → AllByRecursion (Outside first last) m → over m first last 0 ≡ m
store_none_beside [] low first last le ordered each = refl
store_none_beside (r ∷ m) low first last le ordered each = elim each.0.1 [
  | inl below ↦ store_behind r m first last 0 ordered.1 below le ∙ ap (λ (l : List Range). r ∷ l) (store_none_beside m (r.last + 1) first last le ordered.3 each.1)
  | inr above ↦ store_before (r ∷ m) r.first first last 0 (omega arith) above (omega arith, ordered.1, ordered.2, ordered.3)
]

-- ---- what holds the first index after a store

-- a range that ends below an index does not hold it
pub stops_below : (r : Range) (index : ℕ) → r.last < index → holds index r ≡ false
stops_below r index below = and_right (nat_le r.first index) (nat_le index r.last) (lt-leb index r.last below)

past_below : (m rest : List Range) (first : ℕ) → holding (parts_below m first ++ rest) first ≡ holding rest first
past_below [] rest first = refl
past_below (r ∷ m) rest first =
    let behind = past_below m rest first in
    cond_both (nat_lt r.first first) _ _ (λ (kept : List Range). holding (map (cut_below first) kept ++ rest) first ≡ holding rest first)
    (λ part. let begins = ltb-true r.first first part in rw (stops_below (cut_below first r) first (omega arith)) behind)
    (λ out. behind)

pub stored_some : (first last entry : ℕ) → (entry == 0) ≡ false → part_stored first last entry ≡ record { first = first; last = last; entry = entry } ∷ []
stored_some first last entry some = rw some refl

pub stored_holds : (m : List Range) (first last entry : ℕ) → first ≤ last → (entry == 0) ≡ false → holding (over m first last entry) first ≡ Some (record { first = first; last = last; entry = entry })
stored_holds m first last entry le some =
    past_below m (part_stored first last entry ++ parts_above m last) first
    ∙ (ap (λ (l : List Range). holding (l ++ parts_above m last) first) (stored_some first last entry some)
    ∙ rw (le-leb first first (omega arith), le-leb first last le) refl)
