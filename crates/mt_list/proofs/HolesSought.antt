-- A search goes over the holes from below or from above, and what it has before it has the answer.
use Rattle.mt_list.proofs.Prelude.{◌≡◌, ℕ, zero, suc, ◌+◌, ◌-◌, ◌^◌, ◌<◌, ◌≤◌, List, [], ◌∷◌, ◌++◌, Option, Some, None, map, filter, length, get_or, drop, drop-cons, arith, refl, sym, ap, ◌∙◌, subst, append_assoc, append-nil, length-append, AllByRecursion, slice_get, option_map, le-ltb, map-append, filter-append, Kind, Range, greatest_of, kind_width, greatest_fits, Hole, hole_between, holes_from, clip, fits, kept, lowest_in, highest_in, low, high, IsMapFrom, IsMap}

-- ---- holes joined

pub no_hole : (lo hi : ℕ) → hi ≤ lo → hole_between lo hi ≡ []
no_hole lo hi le = rw (le-ltb lo hi le) refl

-- the holes of a map up to its last range, and behind that
pub holes_back : (lo hi : ℕ) (front : List Range) (r : Range) → holes_from lo hi (front ++ (r ∷ [])) ≡ holes_from lo r.first front ++ hole_between (r.last + 1) hi
holes_back lo hi [] r = refl
holes_back lo hi (x ∷ front) r =
    ap (λ (rest : List Hole). hole_between lo x.first ++ rest) (holes_back (x.last + 1) hi front r)
    ∙ sym (append_assoc (hole_between lo x.first) (holes_from (x.last + 1) r.first front) (hole_between (r.last + 1) hi))

pub kept-append : (n lo hi : ℕ) (xs ys : List Hole) → kept n lo hi (xs ++ ys) ≡ kept n lo hi xs ++ kept n lo hi ys
kept-append n lo hi xs ys = ap (filter (fits n)) (map-append (clip lo hi) xs ys) ∙ filter-append (fits n) (map (clip lo hi) xs) (map (clip lo hi) ys)

-- ---- the first and the last of joined lists

pub lowest_front : (xs ys : List Hole) (s : ℕ) → Some s ≡ lowest_in xs → Some s ≡ lowest_in (xs ++ ys)
lowest_front [] ys s at = absurd (cc)
lowest_front (x ∷ xs) ys s at = at

pub lowest_behind : (xs ys : List Hole) → None ≡ lowest_in xs → lowest_in (xs ++ ys) ≡ lowest_in ys
lowest_behind [] ys none = refl
lowest_behind (x ∷ xs) ys none = absurd (cc)

pub get_behind : {X : Type 0} (xs ys : List X) (i : ℕ) → slice_get (xs ++ ys) (length xs + i) ≡ slice_get ys i
get_behind [] ys i = let same : 0 + i ≡ i = omega arith in ap (slice_get ys) same
get_behind (x ∷ xs) ys i = let next : suc (length xs) + i ≡ suc (length xs + i) = omega arith in ap (slice_get (x ∷ (xs ++ ys))) next ∙ get_behind xs ys i

pub highest_back : (n : ℕ) (xs ys : List Hole) (s : ℕ) → Some s ≡ highest_in n ys → Some s ≡ highest_in n (xs ++ ys)
highest_back n xs [] s at = absurd (cc)
highest_back n xs (y ∷ ys) s at =
    let last : length (xs ++ (y ∷ ys)) - 1 ≡ length xs + (length (y ∷ ys) - 1) = omega (arith, length-append xs (y ∷ ys)) in
    at ∙ ap (option_map (λ (x : Hole). x.last + 1 - n)) (sym (ap (slice_get (xs ++ (y ∷ ys))) last ∙ get_behind xs (y ∷ ys) (length (y ∷ ys) - 1)))

pub highest_before : (n : ℕ) (xs ys : List Hole) → None ≡ highest_in n ys → highest_in n (xs ++ ys) ≡ highest_in n xs
highest_before n xs [] none = ap (highest_in n) (append-nil xs)
highest_before n xs (y ∷ ys) none = absurd (some_at (y ∷ ys) (length (y ∷ ys) - 1) (omega arith) none)
  where
    some_at : (zs : List Hole) (i : ℕ) → i < length zs → None ≡ option_map (λ (x : Hole). x.last + 1 - n) (slice_get zs i) → ⊥
    some_at [] i within is = omega arith
    some_at (z ∷ zs) zero within is = cc
    some_at (z ∷ zs) (suc i) within is = some_at zs i (omega arith) is

-- ---- from below

-- the holes from an index on, with the ranges behind it, have the answer
pub record IsSoughtUp (kind : Kind) (m rest : List Range) (n lo hi first : ℕ) : Type 0 where
  pub rise : IsMapFrom first rest
  pub within : AllByRecursion (λ (r : Range). r.last ≤ greatest_of kind) rest
  pub answer : lowest_in (kept n lo hi (holes_from first (greatest_of kind + 1) rest)) ≡ low kind m n lo hi

pub sought_up : (kind : Kind) (m : List Range) (n lo hi : ℕ) → IsMap kind m → IsSoughtUp kind m m n lo hi 0
sought_up kind m n lo hi is = record { rise = is.rise; within = is.within; answer = refl }

module _ (kind : Kind) (m : List Range) (n lo hi first : ℕ) (r : Range) (rest : List Range) (sought : IsSoughtUp kind m (r ∷ rest) n lo hi first) where
  here : lowest_in (kept n lo hi (hole_between first r.first) ++ kept n lo hi (holes_from (r.last + 1) (greatest_of kind + 1) rest)) ≡ low kind m n lo hi
  here = ap lowest_in (sym (kept-append n lo hi (hole_between first r.first) (holes_from (r.last + 1) (greatest_of kind + 1) rest))) ∙ sought.answer

  pub found_up : (s : ℕ) → Some s ≡ lowest_in (kept n lo hi (hole_between first r.first)) → Some s ≡ low kind m n lo hi
  found_up s at = lowest_front (kept n lo hi (hole_between first r.first)) _ s at ∙ here

  pub sought_on_up : None ≡ lowest_in (kept n lo hi (hole_between first r.first)) → IsSoughtUp kind m rest n lo hi (r.last + 1)
  sought_on_up none = record {
    rise = sought.rise.3;
    within = sought.within.1;
    answer = sym (lowest_behind (kept n lo hi (hole_between first r.first)) _ none) ∙ here;
  }

  -- no index is left
  pub none_up : greatest_of kind < r.last + 1 → None ≡ lowest_in (kept n lo hi (hole_between first r.first)) → None ≡ low kind m n lo hi
  none_up past none = ended rest sought.rise.3 sought.within.1 ∙ (sought_on_up none).answer
    where
      ended : (ms : List Range) → IsMapFrom (r.last + 1) ms → AllByRecursion (λ (x : Range). x.last ≤ greatest_of kind) ms → None ≡ lowest_in (kept n lo hi (holes_from (r.last + 1) (greatest_of kind + 1) ms))
      ended [] rise within = ap (λ (xs : List Hole). lowest_in (kept n lo hi xs)) (sym (no_hole (r.last + 1) (greatest_of kind + 1) (omega (arith, past))))
      ended (x ∷ ms) rise within = absurd (omega (arith, rise.0, rise.1, within.0, past))

-- the same at the place of a range: behind the last index that a word has no range is left
pub none_up_at : (kind : Kind) (m : List Range) (n lo hi first i : ℕ) (d : Range) → i < length m → IsSoughtUp kind m (drop i m) n lo hi first → 2 ^ 64 ≤ (get_or m i d).last + 1
    → None ≡ lowest_in (kept n lo hi (hole_between first (get_or m i d).first)) → None ≡ low kind m n lo hi
none_up_at kind m n lo hi first i d within sought past none =
    none_up kind m n lo hi first (get_or m i d) (drop (suc i) m) (subst (λ (rest : List Range). IsSoughtUp kind m rest n lo hi first) (drop-cons m i d within) sought) (omega (arith, greatest_fits (kind_width kind), past)) none

pub none_found : (found : Option ℕ) → ((x : ℕ) → found ≡ Some x → ⊥) → None ≡ found
none_found None other = refl
none_found (Some x) other = absurd (other x refl)

-- ---- from above

-- the holes up to an index, with the ranges below it, have the answer
pub record IsSoughtDown (kind : Kind) (m rest : List Range) (n lo hi last : ℕ) : Type 0 where
  pub rise : IsMapFrom 0 rest
  pub answer : highest_in n (kept n lo hi (holes_from 0 (last + 1) rest)) ≡ high kind m n lo hi

pub sought_down : (kind : Kind) (m : List Range) (n lo hi : ℕ) → IsMap kind m → IsSoughtDown kind m m n lo hi (greatest_of kind)
sought_down kind m n lo hi is = record { rise = is.rise; answer = refl }

pub IsMapFrom-front : (lo : ℕ) (front back : List Range) → IsMapFrom lo (front ++ back) → IsMapFrom lo front
IsMapFrom-front lo [] back rise = tt
IsMapFrom-front lo (x ∷ front) back rise = (rise.0, rise.1, rise.2, IsMapFrom-front (x.last + 1) front back rise.3)

module _ (kind : Kind) (m : List Range) (n lo hi last : ℕ) (rest below : List Range) (r : Range) (parts : rest ≡ below ++ (r ∷ [])) (sought : IsSoughtDown kind m rest n lo hi last) where
  there : highest_in n (kept n lo hi (holes_from 0 r.first below) ++ kept n lo hi (hole_between (r.last + 1) (last + 1))) ≡ high kind m n lo hi
  there =
      ap (highest_in n) (sym (kept-append n lo hi (holes_from 0 r.first below) (hole_between (r.last + 1) (last + 1))))
      ∙ (ap (λ (xs : List Hole). highest_in n (kept n lo hi xs)) (sym (ap (holes_from 0 (last + 1)) parts ∙ holes_back 0 (last + 1) below r)) ∙ sought.answer)

  pub found_down : (s : ℕ) → Some s ≡ highest_in n (kept n lo hi (hole_between (r.last + 1) (last + 1))) → Some s ≡ high kind m n lo hi
  found_down s at = highest_back n (kept n lo hi (holes_from 0 r.first below)) _ s at ∙ there

  pub sought_on_down : None ≡ highest_in n (kept n lo hi (hole_between (r.last + 1) (last + 1))) → (before : ℕ) → before + 1 ≡ r.first → IsSoughtDown kind m below n lo hi before
  sought_on_down none before next = record {
    rise = IsMapFrom-front 0 below (r ∷ []) (subst (IsMapFrom 0) parts sought.rise);
    answer =
        ap (λ (end : ℕ). highest_in n (kept n lo hi (holes_from 0 end below))) next
        ∙ (sym (highest_before n (kept n lo hi (holes_from 0 r.first below)) _ none) ∙ there);
  }

  -- no index is left
  pub none_down : r.first ≡ 0 → None ≡ highest_in n (kept n lo hi (hole_between (r.last + 1) (last + 1))) → None ≡ high kind m n lo hi
  none_down ends none =
      ap (λ (xs : List Hole). highest_in n (kept n lo hi xs)) (sym (none_below below (subst (IsMapFrom 0) parts sought.rise)))
      ∙ (sym (highest_before n (kept n lo hi (holes_from 0 r.first below)) _ none) ∙ there)
    where
      none_below : (ms : List Range) → IsMapFrom 0 (ms ++ (r ∷ [])) → holes_from 0 r.first ms ≡ []
      none_below [] rise = no_hole 0 r.first (omega (arith, ends))
      none_below (x ∷ ms) rise = absurd (omega (arith, ends, above ms (x.last + 1) rise.3))
        where
          above : (ys : List Range) (low : ℕ) → IsMapFrom low (ys ++ (r ∷ [])) → low ≤ r.first
          above [] low rise = rise.0
          above (y ∷ ys) low rise = omega (arith, rise.0, rise.1, above ys (y.last + 1) rise.3)
