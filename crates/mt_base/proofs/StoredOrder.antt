-- A store keeps a map a map.
use Rattle.mt_base.proofs.Prelude.{ℕ, ◌+◌, ◌-◌, ◌<◌, ◌≤◌, List, [], ◌∷◌, ◌++◌, min, max, map, arith, nat_lt, ◌==◌, cond_both, ltb-true, eqb-false, AllByRecursion, Kind, Range, greatest_of, IsMapFrom, IsMap, over, parts_below, parts_above, part_stored, cut_below, cut_above}

-- a map from an index is one from any lower index
pub IsMapFrom-lower : (m : List Range) (low high : ℕ) → low ≤ high → IsMapFrom high m → IsMapFrom low m
IsMapFrom-lower [] low high le ordered = tt
IsMapFrom-lower (r ∷ m) low high le ordered = (omega arith, ordered.1, ordered.2, ordered.3)

-- the parts below `first`, and behind them a map from `first`
pub IsMapFrom-parts_below : (m rest : List Range) (low first : ℕ) → low ≤ first → IsMapFrom low m → IsMapFrom first rest → IsMapFrom low (parts_below m first ++ rest)
IsMapFrom-parts_below [] rest low first le ordered above = IsMapFrom-lower rest low first le above
IsMapFrom-parts_below (r ∷ m) rest low first le ordered above =
    cond_both (nat_lt r.first first) _ _ (λ kept. IsMapFrom low (map (cut_below first) kept ++ rest))
    (λ yes.
    let begins : r.first < first = ltb-true r.first first yes in
    let next : ℕ = min r.last (first - 1) + 1 in (
      ordered.0,
      omega (arith, ordered.1),
      ordered.2,
      IsMapFrom-parts_below m rest next first (omega arith) (IsMapFrom-lower m next (r.last + 1) (omega arith) ordered.3) above,
    ))
    (λ no. IsMapFrom-parts_below m rest low first le (IsMapFrom-lower m low (r.last + 1) (omega (arith, ordered.0, ordered.1)) ordered.3) above)

-- the parts above `last`
pub IsMapFrom-parts_above : (m : List Range) (low last : ℕ) → IsMapFrom low m → IsMapFrom (max low (last + 1)) (parts_above m last)
IsMapFrom-parts_above [] low last ordered = tt
IsMapFrom-parts_above (r ∷ m) low last ordered =
    let behind : IsMapFrom (max (r.last + 1) (last + 1)) (parts_above m last) = IsMapFrom-parts_above m (r.last + 1) last ordered.3 in
    cond_both (nat_lt last r.last) _ _ (λ kept. IsMapFrom (max low (last + 1)) (map (cut_above last) kept))
    (λ yes.
    let ends : last < r.last = ltb-true last r.last yes in (
      omega (arith, ordered.0),
      omega (arith, ordered.1),
      ordered.2,
      IsMapFrom-lower (parts_above m last) (r.last + 1) (max (r.last + 1) (last + 1)) (omega arith) behind,
    ))
    (λ no. IsMapFrom-lower (parts_above m last) (max low (last + 1)) (max (r.last + 1) (last + 1)) (omega (arith, ordered.0, ordered.1)) behind)

-- the range that is stored, and the parts above it
IsMapFrom-stored : (m : List Range) (first last entry : ℕ) → first ≤ last → IsMapFrom 0 m → IsMapFrom first (part_stored first last entry ++ parts_above m last)
IsMapFrom-stored m first last entry le ordered =
    let above : IsMapFrom (last + 1) (parts_above m last) = IsMapFrom-lower (parts_above m last) (last + 1) (max 0 (last + 1)) (omega arith) (IsMapFrom-parts_above m 0 last ordered) in
    cond_both (entry == 0) _ _ (λ stored. IsMapFrom first (stored ++ parts_above m last))
    (λ none. IsMapFrom-lower (parts_above m last) first (last + 1) (omega arith) above)
    (λ some. (omega arith, le, omega (arith, eqb-false entry 0 some), above))

-- a store keeps ranges rising
pub over_rises : (m : List Range) (first last entry : ℕ) → first ≤ last → IsMapFrom 0 m → IsMapFrom 0 (over m first last entry)
over_rises m first last entry le ordered = IsMapFrom-parts_below m _ 0 first (omega arith) ordered (IsMapFrom-stored m first last entry le ordered)

-- ranges that end at `top` or below
abbrev Within : ℕ → List Range → Type 0
Within top m = AllByRecursion (λ (r : Range). r.last ≤ top) m

within_below : (top : ℕ) (m rest : List Range) (first : ℕ) → Within top m → Within top rest → Within top (parts_below m first ++ rest)
within_below top [] rest first within behind = behind
within_below top (r ∷ m) rest first within behind =
    cond_both (nat_lt r.first first) _ _ (λ kept. Within top (map (cut_below first) kept ++ rest))
    (λ yes. (omega (arith, within.0), within_below top m rest first within.1 behind))
    (λ no. within_below top m rest first within.1 behind)

within_above : (top : ℕ) (m : List Range) (last : ℕ) → Within top m → Within top (parts_above m last)
within_above top [] last within = tt
within_above top (r ∷ m) last within =
    cond_both (nat_lt last r.last) _ _ (λ kept. Within top (map (cut_above last) kept))
    (λ yes. (within.0, within_above top m last within.1))
    (λ no. within_above top m last within.1)

within_stored : (top : ℕ) (rest : List Range) (first last entry : ℕ) → last ≤ top → Within top rest → Within top (part_stored first last entry ++ rest)
within_stored top rest first last entry le behind =
    cond_both (entry == 0) _ _ (λ stored. Within top (stored ++ rest)) (λ none. behind) (λ some. (le, behind))

-- a store keeps a map a map
pub over_is_map : (kind : Kind) (m : List Range) (first last entry : ℕ) → first ≤ last → last ≤ greatest_of kind → IsMap kind m → IsMap kind (over m first last entry)
over_is_map kind m first last entry le to ordered = record {
  rise = over_rises m first last entry le ordered.rise;
  within =
      let top = greatest_of kind in
      within_below top m _ first ordered.within (within_stored top _ first last entry to (within_above top m last ordered.within));
}
