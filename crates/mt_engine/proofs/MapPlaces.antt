-- What a map has at an index tells what stands at the places of the index: the range in its slot, or the one right behind
-- the hole there, or right before it.
use Rattle.mt_engine.proofs.Prelude.{◌≡◌, ◌⊎◌, ℕ, ◌+◌, ◌-◌, ◌<◌, ◌≤◌, zero, suc, Bool, true, false, List, [], ◌∷◌, Option, Some, None, take, arith, nat_lt, nat_le, refl, sym, ap, ◌∙◌, subst, inl, inr, AllByRecursion, slice_get, prefix_len, cases_Bool, and_parts, ltb-true, leb-true, lt-ltb, le-ltb, lt-leb, le-leb, cond_some, Range, IsMapFrom, holds, holding, place_below, place_above, last_of, up_to, holding_at_place, all_map, Outside}

-- ---- the ranges beside a span

-- the range lies beside the indexes `a` to `b`, or is of these indexes itself
abbrev pub Beside : ℕ → ℕ → Range → Type 0
Beside a b r = (r.first ≤ r.last) × ((r.last < a) ⊎ ((b < r.first) ⊎ ((r.first ≡ a) × (r.last ≡ b))))

-- a hole
pub beside_hole : (m : List Range) (a b : ℕ) → AllByRecursion (Outside a b) m → AllByRecursion (Beside a b) m
beside_hole m a b each = all_map (Outside a b) (Beside a b) (λ r out. (out.0, widen r out.1)) m each
  where
    widen : (r : Range) → (r.last < a) ⊎ (b < r.first) → (r.last < a) ⊎ ((b < r.first) ⊎ ((r.first ≡ a) × (r.last ≡ b)))
    widen r (inl below) = inl below
    widen r (inr above) = inr (inl above)

-- a map from above the span
above_all : (m : List Range) (a b low : ℕ) → b < low → IsMapFrom low m → AllByRecursion (Beside a b) m
above_all [] a b low above ordered = tt
above_all (r ∷ m) a b low above ordered =
    let begins = ordered.0 in let ends = ordered.1 in
    ((ordered.1, inr (inl (omega arith))), above_all m a b (r.last + 1) (omega arith) ordered.3)

-- the range that holds an index lies where the map does
pub held_from : (m : List Range) (low index : ℕ) (r : Range) → IsMapFrom low m → holding m index ≡ Some r → low ≤ r.first
held_from [] low index r ordered held = absurd (cc)
held_from (s ∷ m) low index r ordered held = elim (cases_Bool (holds index s)) [
  | inl here ↦ (let same : s ≡ r = (let at = rw here at held in cc) in subst (λ (x : Range). low ≤ x.first) same ordered.0)
  | inr behind ↦ (let begins = ordered.0 in let ends = ordered.1 in let more = held_from m (s.last + 1) index r ordered.3 (rw behind at held) in omega arith)
]

pub holds_is : (r : Range) (index : ℕ) → holds index r ≡ true → (r.first ≤ index) × (index ≤ r.last)
holds_is r index held =
    let parts = and_parts (nat_le r.first index) (nat_le index r.last) held in
    (leb-true r.first index parts.0, leb-true index r.last parts.1)

-- a range of the map
pub beside_held : (m : List Range) (low index : ℕ) (r : Range) → IsMapFrom low m → holding m index ≡ Some r → AllByRecursion (Beside r.first r.last) m
beside_held [] low index r ordered held = tt
beside_held (s ∷ m) low index r ordered held = elim (cases_Bool (holds index s)) [
  | inl here ↦
      (let same : s ≡ r = (let at = rw here at held in cc) in
      subst (λ (x : Range). AllByRecursion (Beside x.first x.last) (s ∷ m)) same
      ((ordered.1, inr (inr (refl, refl))), above_all m s.first s.last (s.last + 1) (omega arith) ordered.3))
  | inr behind ↦
      (let at = rw behind at held in
      let begins = held_from m (s.last + 1) index r ordered.3 at in
      ((ordered.1, inl (omega arith)), beside_held m (s.last + 1) index r ordered.3 at))
]

-- ---- places that are the same

same_places : (p q : Range → Bool) (m : List Range) → AllByRecursion (λ (r : Range). p r ≡ q r) m → prefix_len p m ≡ prefix_len q m
same_places p q [] each = refl
same_places p q (r ∷ m) each = rw (each.0, same_places p q m each.1) refl

same_test : (p q : Bool) → (p ≡ true → q ≡ true) → (q ≡ true → p ≡ true) → p ≡ q
same_test true q there back = sym (there refl)
same_test false true there back = back refl
same_test false false there back = refl

-- what begins at the index or below ends at the last index or below
next_test : (a b index : ℕ) (r : Range) → a ≤ index → index ≤ b → Beside a b r → nat_le r.first index ≡ nat_lt r.last (b + 1)
next_test a b index r from to (order, inl below) = same_test _ _ (λ _. lt-ltb r.last (b + 1) (omega arith)) (λ _. le-leb r.first index (omega arith))
next_test a b index r from to (order, inr (inl above)) =
    same_test _ _ (λ t. absurd (let le = leb-true r.first index t in omega arith)) (λ t. absurd (let lt = ltb-true r.last (b + 1) t in omega arith))
next_test a b index r from to (order, inr (inr (begins, ends))) = same_test _ _ (λ _. lt-ltb r.last (b + 1) (omega arith)) (λ _. le-leb r.first index (omega arith))

-- what ends below the index begins below the first index
prev_test : (a b index : ℕ) (r : Range) → 0 < a → a ≤ index → index ≤ b → Beside a b r → nat_lt r.last index ≡ nat_le r.first (a - 1)
prev_test a b index r some from to (order, inl below) = same_test _ _ (λ _. le-leb r.first (a - 1) (omega arith)) (λ _. lt-ltb r.last index (omega arith))
prev_test a b index r some from to (order, inr (inl above)) =
    same_test _ _ (λ t. absurd (let lt = ltb-true r.last index t in omega arith)) (λ t. absurd (let le = leb-true r.first (a - 1) t in omega arith))
prev_test a b index r some from to (order, inr (inr (begins, ends))) =
    same_test _ _ (λ t. absurd (let lt = ltb-true r.last index t in omega arith)) (λ t. absurd (let le = leb-true r.first (a - 1) t in omega arith))

-- what ends below one index of a hole ends below all of it, and so with what begins there or below
first_test : (a b index : ℕ) (r : Range) → a ≤ index → index ≤ b → Outside a b r → nat_lt r.last index ≡ nat_lt r.last (b + 1)
first_test a b index r from to (order, inl below) = same_test _ _ (λ _. lt-ltb r.last (b + 1) (omega arith)) (λ _. lt-ltb r.last index (omega arith))
first_test a b index r from to (order, inr above) =
    same_test _ _ (λ t. absurd (let lt = ltb-true r.last index t in omega arith)) (λ t. absurd (let lt = ltb-true r.last (b + 1) t in omega arith))

last_test : (a b index : ℕ) (r : Range) → 0 < a → a ≤ index → index ≤ b → Outside a b r → nat_le r.first index ≡ nat_le r.first (a - 1)
last_test a b index r some from to (order, inl below) = same_test _ _ (λ _. le-leb r.first (a - 1) (omega arith)) (λ _. le-leb r.first index (omega arith))
last_test a b index r some from to (order, inr above) =
    same_test _ _ (λ t. absurd (let le = leb-true r.first index t in omega arith)) (λ t. absurd (let le = leb-true r.first (a - 1) t in omega arith))

module _ (m : List Range) (a b index : ℕ) (from : a ≤ index) (to : index ≤ b) where
  -- what begins at the index or below ends at the span's last index or below
  pub next_place : AllByRecursion (Beside a b) m → place_above m index ≡ place_below m (b + 1)
  next_place each = same_places _ _ m (all_map (Beside a b) _ (λ r beside. next_test a b index r from to beside) m each)

  -- what ends below the index begins below the span's first index
  pub prev_place : 0 < a → AllByRecursion (Beside a b) m → place_below m index ≡ place_above m (a - 1)
  prev_place some each = same_places _ _ m (all_map (Beside a b) _ (λ r beside. prev_test a b index r some from to beside) m each)

  -- in a hole
  pub first_place : AllByRecursion (Outside a b) m → place_below m index ≡ place_below m (b + 1)
  first_place each = same_places _ _ m (all_map (Outside a b) _ (λ r out. first_test a b index r from to out) m each)

  pub last_place : 0 < a → AllByRecursion (Outside a b) m → place_above m index ≡ place_above m (a - 1)
  last_place some each = same_places _ _ m (all_map (Outside a b) _ (λ r out. last_test a b index r some from to out) m each)

-- ---- what stands at a place

-- a map from an index has no range that ends below it, and none that begins below it
none_below : (m : List Range) (low index : ℕ) → index ≤ low → IsMapFrom low m → place_below m index ≡ 0
none_below [] low index le ordered = refl
none_below (r ∷ m) low index le ordered = let begins = ordered.0 in let ends = ordered.1 in rw (le-ltb r.last index (omega arith)) refl

none_above : (m : List Range) (low index : ℕ) → index < low → IsMapFrom low m → place_above m index ≡ 0
none_above [] low index le ordered = refl
none_above (r ∷ m) low index le ordered = let begins = ordered.0 in rw (lt-leb r.first index (omega arith)) refl

pub range_there : (range : Option Range) (index : ℕ) (r : Range) → up_to index range ≡ Some r → range ≡ Some r
range_there None index r held = absurd (cc)
range_there (Some s) index r held = ap Some (cond_some (nat_le s.first index) s r held).1

-- the range that holds an index is the first that ends there or above
pub first_held : (m : List Range) (index : ℕ) (r : Range) → IsMapFrom 0 m → holding m index ≡ Some r → slice_get m (place_below m index) ≡ Some r
first_held m index r rise held = range_there (slice_get m (place_below m index)) index r (sym (holding_at_place m index rise) ∙ held)

last_of_more : (s r : Range) (m : List Range) → last_of m ≡ Some r → last_of (s ∷ m) ≡ Some r
last_of_more s r [] last = absurd (cc)
last_of_more s r (x ∷ m) last = last

last_held_from : (m : List Range) (low index : ℕ) (r : Range) → IsMapFrom low m → holding m index ≡ Some r → last_of (take (place_above m index) m) ≡ Some r
last_held_from [] low index r ordered held = absurd (cc)
last_held_from (s ∷ m) low index r ordered held = elim (cases_Bool (holds index s)) [
  | inl here ↦
      (let same : s ≡ r = (let at = rw here at held in cc) in
      let is = holds_is s index here in
      let from = is.0 in let to = is.1 in
      let one : place_above (s ∷ m) index ≡ suc zero = rw (le-leb s.first index from, none_above m (s.last + 1) index (omega arith) ordered.3) refl in
      ap (λ (n : ℕ). last_of (take n (s ∷ m))) one ∙ ap Some same)
  | inr behind ↦
      (let at = rw behind at held in
      let begins = held_from m (s.last + 1) index r ordered.3 at in
      let ends = ordered.1 in
      let from = r_from m (s.last + 1) index r ordered.3 at in
      let one : place_above (s ∷ m) index ≡ suc (place_above m index) = rw (le-leb s.first index (omega arith)) (omega arith) in
      ap (λ (n : ℕ). last_of (take n (s ∷ m))) one ∙ last_of_more s r (take (place_above m index) m) (last_held_from m (s.last + 1) index r ordered.3 at))
]
  where
    r_from : (m : List Range) (low index : ℕ) (r : Range) → IsMapFrom low m → holding m index ≡ Some r → r.first ≤ index
    r_from [] low index r ordered held = absurd (cc)
    r_from (s ∷ m) low index r ordered held = elim (cases_Bool (holds index s)) [
      | inl here ↦ (let same : s ≡ r = (let at = rw here at held in cc) in subst (λ (x : Range). x.first ≤ index) same (holds_is s index here).0)
      | inr behind ↦ r_from m (s.last + 1) index r ordered.3 (rw behind at held)
    ]

-- and the last that begins there or below
pub last_held : (m : List Range) (index : ℕ) (r : Range) → IsMapFrom 0 m → holding m index ≡ Some r → last_of (take (place_above m index) m) ≡ Some r
last_held m index r rise held = last_held_from m 0 index r rise held

-- ---- at the ends of all indexes

ends_from : (b index : ℕ) (r : Range) → index ≤ b → Beside 0 b r → index ≤ r.last
ends_from b index r to (order, inl below) = absurd (omega arith)
ends_from b index r to (order, inr (inl above)) = omega arith
ends_from b index r to (order, inr (inr (begins, ends))) = omega arith

begins_above : (b index : ℕ) (r : Range) → index ≤ b → Outside 0 b r → index < r.first
begins_above b index r to (order, inl below) = absurd (omega arith)
begins_above b index r to (order, inr above) = omega arith

-- no range ends below a span that begins at 0
pub none_before : (m : List Range) (b index : ℕ) → index ≤ b → AllByRecursion (Beside 0 b) m → place_below m index ≡ 0
none_before [] b index to each = refl
none_before (r ∷ m) b index to each = rw (le-ltb r.last index (ends_from b index r to each.0)) refl

-- and none begins at the indexes of a hole that does, or below
pub none_before_hole : (m : List Range) (b index : ℕ) → index ≤ b → AllByRecursion (Outside 0 b) m → place_above m index ≡ 0
none_before_hole [] b index to each = refl
none_before_hole (r ∷ m) b index to each = rw (lt-leb r.first index (begins_above b index r to each.0)) refl

-- where no range ends above an index, none ends behind it
pub none_behind : (m : List Range) (top : ℕ) → AllByRecursion (λ (r : Range). r.last ≤ top) m → slice_get m (place_below m (top + 1)) ≡ None
none_behind [] top each = refl
none_behind (r ∷ m) top each =
    let ends = each.0 in
    let one : place_below (r ∷ m) (top + 1) ≡ suc (place_below m (top + 1)) = rw (lt-ltb r.last (top + 1) (omega arith)) (omega arith) in
    ap (slice_get (r ∷ m)) one ∙ none_behind m top each.1
