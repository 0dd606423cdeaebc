-- A store changes the ranges from the place below its first index up to the place above its last.
use Rattle.mt_list.proofs.Prelude.{◌≡◌, ℕ, ◌+◌, ◌-◌, ◌<◌, ◌≤◌, suc, List, [], ◌∷◌, ◌++◌, min, max, length, take, drop, arith, nat_lt, nat_le, refl, ap, append_assoc, inl, inr, slice_get, cond_both, ltb-true, ltb-false, leb-true, leb-false, lt-ltb, le-ltb, le-leb, cases_Bool, Range, IsMapFrom, over, parts_below, parts_above, part_stored, place_below, place_above, piece_below, piece_above, last_of}

-- a map from `first` or above has no part below `first`
pub no_part_below : (m : List Range) (low first : ℕ) → first ≤ low → IsMapFrom low m → parts_below m first ≡ []
no_part_below [] low first le ordered = refl
no_part_below (r ∷ m) low first le ordered = rw (le-ltb r.first first (omega (arith, ordered.0))) (no_part_below m (r.last + 1) first (omega (arith, ordered.0, ordered.1)) ordered.3)

-- a map from above `last` lies above it whole
pub all_parts_above : (m : List Range) (low last : ℕ) → last < low → IsMapFrom low m → parts_above m last ≡ m
all_parts_above [] low last lt ordered = refl
all_parts_above (r ∷ m) low last lt ordered =
    let whole : max r.first (last + 1) ≡ r.first = omega (arith, ordered.0) in
    rw (lt-ltb last r.last (omega (arith, ordered.0, ordered.1)), whole) (ap (λ rest. r ∷ rest) (all_parts_above m (r.last + 1) last (omega (arith, ordered.0, ordered.1)) ordered.3))

abbrev parts_below_at : List Range → ℕ → ℕ → List Range
parts_below_at m first place = take place m ++ piece_below first (slice_get m place)

parts_below_are : (m : List Range) (low first : ℕ) → IsMapFrom low m → parts_below m first ≡ parts_below_at m first (place_below m first)
parts_below_are [] low first ordered = refl
parts_below_are (r ∷ m) low first ordered =
    cond_both (nat_lt r.last first) (1 + place_below m first) 0 (λ place. parts_below (r ∷ m) first ≡ parts_below_at (r ∷ m) first place)
    (λ yes.
    let ends : r.last < first = ltb-true r.last first yes in
    let next : 1 + place_below m first ≡ suc (place_below m first) = omega arith in
    let whole : min r.last (first - 1) ≡ r.last = omega arith in
    rw (next, lt-ltb r.first first (omega (arith, ordered.1)), whole) (ap (λ rest. r ∷ rest) (parts_below_are m (r.last + 1) first ordered.3)))
    (λ no.
    let reaches : first ≤ r.last = ltb-false r.last first no in
    let none : parts_below m first ≡ [] = no_part_below m (r.last + 1) first (omega arith) ordered.3 in
    elim (cases_Bool (nat_lt r.first first)) [ inl begins ↦ rw (begins, none) refl | inr above ↦ rw (above, none) refl ])

abbrev parts_above_at : List Range → ℕ → ℕ → List Range
parts_above_at m last place = piece_above last (last_of (take place m)) ++ drop place m

-- the step where the first range begins at `last` or below: the second range says whether the first is the last such
parts_above_step : (r : Range) (m : List Range) (low last : ℕ) → IsMapFrom low (r ∷ m) → parts_above m last ≡ parts_above_at m last (place_above m last) → parts_above (r ∷ m) last ≡ parts_above_at (r ∷ m) last (1 + place_above m last)
parts_above_step r [] low last ordered rest = elim (cases_Bool (nat_lt last r.last)) [ inl ends ↦ rw ends refl | inr none ↦ rw none refl ]
parts_above_step r (s ∷ m) low last ordered rest =
    let next : 1 + place_above (s ∷ m) last ≡ suc (place_above (s ∷ m) last) = omega arith in
    elim (cases_Bool (nat_le s.first last)) [
      | inl begins ↦
          let before : r.last ≤ last = omega (arith, ordered.3.0, leb-true s.first last begins) in
          let more : 1 + place_above m last ≡ suc (place_above m last) = omega arith in
          let behind = rw (begins, more) at rest in
          rw (next, le-ltb last r.last before, begins, more) behind
      | inr above ↦
          let whole : parts_above (s ∷ m) last ≡ s ∷ m = all_parts_above (s ∷ m) s.first last (leb-false s.first last above) (omega arith, ordered.3.1, ordered.3.2, ordered.3.3) in
          elim (cases_Bool (nat_lt last r.last)) [ inl ends ↦ rw (above, ends, whole) refl | inr none ↦ rw (above, none, whole) refl ]
    ]

parts_above_are : (m : List Range) (low last : ℕ) → IsMapFrom low m → parts_above m last ≡ parts_above_at m last (place_above m last)
parts_above_are [] low last ordered = refl
parts_above_are (r ∷ m) low last ordered =
    cond_both (nat_le r.first last) (1 + place_above m last) 0 (λ place. parts_above (r ∷ m) last ≡ parts_above_at (r ∷ m) last place)
    (λ yes. parts_above_step r m low last ordered (parts_above_are m (r.last + 1) last ordered.3))
    (λ no. all_parts_above (r ∷ m) r.first last (leb-false r.first last no) (omega arith, ordered.1, ordered.2, ordered.3))

regrouped : (front below stored above back : List Range) → front ++ ((below ++ (stored ++ above)) ++ back) ≡ (front ++ below) ++ (stored ++ (above ++ back))
regrouped front below stored above back = simp append_assoc

-- what is put together from the pieces is the map after the store
pub store_at_places : (m : List Range) (first last entry : ℕ) (below stored above pieces : List Range) → IsMapFrom 0 m → below ≡ piece_below first (slice_get m (place_below m first)) → stored ≡ part_stored first last entry → above ≡ piece_above last (last_of (take (place_above m last) m)) → pieces ≡ below ++ (stored ++ above) → take (place_below m first) m ++ (pieces ++ drop (place_above m last) m) ≡ over m first last entry
store_at_places m first last entry below stored above pieces ordered b s a p =
    rw (p, b, s, a, parts_below_are m 0 first ordered, parts_above_are m 0 last ordered) (regrouped (take (place_below m first) m) _ _ _ (drop (place_above m last) m))

rise : (m : List Range) (low first last : ℕ) → first ≤ last → IsMapFrom low m → place_below m first ≤ place_above m last
rise [] low first last le ordered = omega arith
rise (r ∷ m) low first last le ordered =
    cond_both (nat_lt r.last first) (1 + place_below m first) 0 (λ place. place ≤ place_above (r ∷ m) last)
    (λ yes.
    let ends : r.last < first = ltb-true r.last first yes in
    let behind : place_below m first ≤ place_above m last = rise m (r.last + 1) first last le ordered.3 in
    rw (le-leb r.first last (omega (arith, ordered.1))) (omega arith))
    (λ no. omega arith)

-- the places are in order
pub places_rise : (m : List Range) (first last : ℕ) → first ≤ last → IsMapFrom 0 m → place_below m first ≤ place_above m last
places_rise m first last le ordered = rise m 0 first last le ordered

-- what a store's proof cites
pub ruleset stores = (store_at_places, places_rise)

last_of_step : (r s : Range) (m : List Range) → last_of (s ∷ m) ≡ slice_get (s ∷ m) (length (s ∷ m) - 1) → last_of (s ∷ m) ≡ slice_get (r ∷ s ∷ m) (length (r ∷ s ∷ m) - 1)
last_of_step r s m behind =
    let outer : length (r ∷ s ∷ m) - 1 ≡ suc (length m) = omega arith in
    let inner : length (s ∷ m) - 1 ≡ length m = omega arith in
    rw outer (rw inner at behind)

-- the last range, by its index
pub last_of_is_at_end : (m : List Range) → last_of m ≡ slice_get m (length m - 1)
last_of_is_at_end [] = refl
last_of_is_at_end (r ∷ []) = refl
last_of_is_at_end (r ∷ s ∷ m) = last_of_step r s m (last_of_is_at_end (s ∷ m))
