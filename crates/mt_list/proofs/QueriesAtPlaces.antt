-- The range that answers a query stands at the place of its index, or just before that place.
use Rattle.mt_list.proofs.Prelude.{◌≡◌, ℕ, ◌+◌, ◌<◌, ◌≤◌, suc, zero, Bool, true, false, List, [], ◌∷◌, take, filter, not, ◌&&◌, arith, nat_lt, nat_le, refl, ap, inl, inr, slice_get, prefix_len, list_any, is_some, cond_both, cases_Bool, cases_lt, and_left, and_right, ltb-false, leb-true, leb-false, lt-leb, le-leb, le-ltb, lt-ltb, Range, IsMapFrom, overlaps, is_held, first_range, last_range, place_below, place_above, last_of, up_to, down_to}
use Rattle.mt_list.proofs.StoreAtPlaces.{last_of_is_at_end}

-- no range of a map from above `max` begins at `max` or below
none_up_to : (past : Range → Bool) (m : List Range) (low max : ℕ) → max < low → IsMapFrom low m → filter (λ r. past r && nat_le r.first max) m ≡ []
none_up_to past [] low max above ordered = refl
none_up_to past (r ∷ m) low max above ordered =
    rw (and_right (past r) (nat_le r.first max) (lt-leb r.first max (omega (arith, ordered.0))))
    (none_up_to past m (r.last + 1) max (omega (arith, ordered.0, ordered.1)) ordered.3)

-- the first range past a front of the map, if it begins at `max` or below
first_past : (front past : Range → Bool) (m : List Range) (low max : ℕ) → ((r : Range) → past r ≡ not (front r)) → IsMapFrom low m → first_range (filter (λ r. past r && nat_le r.first max) m) ≡ up_to max (slice_get m (prefix_len front m))
first_past front past [] low max other ordered = refl
first_past front past (r ∷ m) low max other ordered =
    cond_both (front r) (1 + prefix_len front m) 0 (λ n. first_range (filter (λ s. past s && nat_le s.first max) (r ∷ m)) ≡ up_to max (slice_get (r ∷ m) n))
    (λ before.
    let next : 1 + prefix_len front m ≡ suc (prefix_len front m) = omega arith in
    rw (next, other r, before) (first_past front past m (r.last + 1) max other ordered.3))
    (λ here.
    elim (cases_Bool (nat_le r.first max)) [
      | inl begins ↦ rw (other r, here, begins) refl
      | inr above ↦ rw (other r, here, above) (ap first_range (none_up_to past m (r.last + 1) max (omega (arith, leb-false r.first max above, ordered.1)) ordered.3))
    ])

ends_from : (a b : ℕ) → nat_le b a ≡ not (nat_lt a b)
ends_from a b = elim (cases_lt a b) [ inl lt ↦ rw (lt-ltb a b lt, lt-leb b a lt) refl | inr le ↦ rw (le-ltb a b le, le-leb b a le) refl ]

begins_above : (a b : ℕ) → nat_lt b a ≡ not (nat_le a b)
begins_above a b = elim (cases_lt b a) [ inl lt ↦ rw (lt-ltb b a lt, lt-leb a b lt) refl | inr le ↦ rw (le-ltb b a le, le-leb a b le) refl ]

-- the first range that ends at `index` or above, if it begins at `max` or below
pub first_from_place : (m : List Range) (index max : ℕ) → IsMapFrom 0 m → first_range (filter (λ r. nat_le index r.last && nat_le r.first max) m) ≡ up_to max (slice_get m (place_below m index))
first_from_place m index max ordered = first_past (λ r. nat_lt r.last index) (λ r. nat_le index r.last) m 0 max (λ r. ends_from r.last index) ordered

-- the first range that begins above `index`, if it begins at `max` or below
pub first_above_place : (m : List Range) (index max : ℕ) → IsMapFrom 0 m → first_range (filter (λ r. nat_lt index r.first && nat_le r.first max) m) ≡ up_to max (slice_get m (place_above m index))
first_above_place m index max ordered = first_past (λ r. nat_le r.first index) (λ r. nat_lt index r.first) m 0 max (λ r. begins_above r.first index) ordered

-- where a range stops a front, so does each range above it
abbrev Stops : (Range → Bool) → Type 0
Stops front = (r s : Range) → r.last < s.first → r.first ≤ r.last → s.first ≤ s.last → front r ≡ false → front s ≡ false

none_behind : (front kept : Range → Bool) (r : Range) (m : List Range) → Stops front → r.first ≤ r.last → front r ≡ false → IsMapFrom (r.last + 1) m → filter (λ s. front s && kept s) m ≡ []
none_behind front kept r [] stops order stopped ordered = refl
none_behind front kept r (s ∷ m) stops order stopped ordered =
    let fails : front s ≡ false = stops r s (omega (arith, ordered.0)) order ordered.1 stopped in
    rw (and_left (front s) (kept s) fails) (none_behind front kept s m stops ordered.1 fails ordered.3)

-- what a filter keeps of a front of the map
filter_front : (front kept : Range → Bool) (m : List Range) (low : ℕ) → Stops front → IsMapFrom low m → filter (λ r. front r && kept r) m ≡ filter kept (take (prefix_len front m) m)
filter_front front kept [] low stops ordered = refl
filter_front front kept (r ∷ m) low stops ordered =
    cond_both (front r) (1 + prefix_len front m) 0 (λ n. filter (λ s. front s && kept s) (r ∷ m) ≡ filter kept (take n (r ∷ m)))
    (λ before.
    let next : 1 + prefix_len front m ≡ suc (prefix_len front m) = omega arith in
    rw (next, before, filter_front front kept m (r.last + 1) stops ordered.3) refl)
    (λ here. rw here (none_behind front kept r m stops ordered.1 here ordered.3))

IsMapFrom-take : (m : List Range) (low n : ℕ) → IsMapFrom low m → IsMapFrom low (take n m)
IsMapFrom-take [] low zero ordered = tt
IsMapFrom-take [] low (suc n) ordered = tt
IsMapFrom-take (r ∷ m) low zero ordered = tt
IsMapFrom-take (r ∷ m) low (suc n) ordered = (ordered.0, ordered.1, ordered.2, IsMapFrom-take m (r.last + 1) n ordered.3)

-- the last of the ranges that end at `min` or above is the last range, if that ends there
last_down_to : (m : List Range) (low min : ℕ) → IsMapFrom low m → last_of (filter (λ r. nat_le min r.last) m) ≡ down_to min (last_of m)
last_down_to [] low min ordered = refl
last_down_to (r ∷ []) low min ordered = elim (cases_Bool (nat_le min r.last)) [ inl ends ↦ rw ends refl | inr below ↦ rw below refl ]
last_down_to (r ∷ s ∷ m) low min ordered =
    let behind = last_down_to (s ∷ m) (r.last + 1) min ordered.3 in
    elim (cases_Bool (nat_le min r.last)) [
      | inl ends ↦
          let next : nat_le min s.last ≡ true = le-leb min s.last (omega (arith, leb-true min r.last ends, ordered.3.0, ordered.3.1)) in
          let there = rw next at behind in
          rw (ends, next) there
      | inr below ↦ rw below behind
    ]

last_in_front : (front : Range → Bool) (m : List Range) (min : ℕ) → Stops front → IsMapFrom 0 m → last_range (filter (λ r. front r && nat_le min r.last) m) ≡ down_to min (last_of (take (prefix_len front m) m))
last_in_front front m min stops ordered =
    let within : List Range = take (prefix_len front m) m in
    rw (filter_front front (λ r. nat_le min r.last) m 0 stops ordered, ← last_of_is_at_end (filter (λ r. nat_le min r.last) within))
    (last_down_to within 0 min (IsMapFrom-take m 0 (prefix_len front m) ordered))

-- the last range that ends below `index`, if it ends at `min` or above
pub last_below_place : (m : List Range) (index min : ℕ) → IsMapFrom 0 m → last_range (filter (λ r. nat_lt r.last index && nat_le min r.last) m) ≡ down_to min (last_of (take (place_below m index) m))
last_below_place m index min ordered =
    last_in_front (λ r. nat_lt r.last index) m min
    (λ r s above order order' stopped. le-ltb s.last index (omega (arith, ltb-false r.last index stopped))) ordered

-- the last range that begins at `index` or below, if it ends at `min` or above
pub last_up_to_place : (m : List Range) (index min : ℕ) → IsMapFrom 0 m → last_range (filter (λ r. nat_le r.first index && nat_le min r.last) m) ≡ down_to min (last_of (take (place_above m index) m))
last_up_to_place m index min ordered =
    last_in_front (λ r. nat_le r.first index) m min
    (λ r s above order order' stopped. lt-leb s.first index (omega (arith, leb-false r.first index stopped))) ordered
