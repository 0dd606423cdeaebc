-- What lies before a shelf that ends below an index, and behind one that begins above one.
use Rattle.mt_shelves.proofs.Prelude.{◌≡◌, ℕ, zero, suc, ◌+◌, ◌<◌, ◌≤◌, true, false, List, [], ◌∷◌, ◌++◌, length, take, drop, get_or, sym, ap, ◌∙◌, subst, arith, ltb-true, ltb-false, flat_map-append, append-nil, drop_more, take_more, take-append-drop, Range, IsMapFrom, IsMapFrom-front, AllFilled, AreRising, BeginAbove, EndBelow, begins_above, ends_below, joined}
use Rattle.mt_shelves.proofs.MapParts.{IsMapFrom-back}

-- ---- one list of ranges

pub all_ends : (index low : ℕ) (m : List Range) → IsMapFrom low m → ends_below index m ≡ true → EndBelow index m
all_ends index low [] rise ends = tt
all_ends index low (r ∷ []) rise ends = (ltb-true r.last index ends, tt)
all_ends index low (r ∷ s ∷ m) rise ends =
    let behind : EndBelow index (s ∷ m) = all_ends index (r.last + 1) (s ∷ m) rise.3 ends in
    (omega (arith, rise.3.0, rise.3.1, behind.0), behind)

begin_from : (index low : ℕ) (m : List Range) → index < low → IsMapFrom low m → BeginAbove index m
begin_from index low [] above rise = tt
begin_from index low (r ∷ m) above rise = (omega (arith, above, rise.0), begin_from index (r.last + 1) m (omega (arith, above, rise.0, rise.1)) rise.3)

-- behind a range that ends at an index or above all begin above it
pub behind_reach : (index low : ℕ) (m rest : List Range) → IsMapFrom low (m ++ rest) → ends_below index m ≡ false → BeginAbove index rest
behind_reach index low [] rest rise ends = absurd (cc)
behind_reach index low (r ∷ []) rest rise ends = begin_from index (r.last + 1) rest (omega (arith, ltb-false r.last index ends)) rise.3
behind_reach index low (r ∷ s ∷ m) rest rise ends = behind_reach index (r.last + 1) (s ∷ m) rest rise.3 ends

-- all begin above where the first does
pub all_begin : (index low : ℕ) (m rest : List Range) → 0 < length m → IsMapFrom low (m ++ rest) → begins_above index m ≡ true → BeginAbove index (m ++ rest)
all_begin index low [] rest some rise begins = absurd (omega (arith, some))
all_begin index low (r ∷ m) rest some rise begins = (ltb-true index r.first begins, begin_from index (r.last + 1) (m ++ rest) (omega (arith, ltb-true index r.first begins, rise.1)) rise.3)

-- before a range that begins at an index or below all end below it
pub before_reach : (index low : ℕ) (front m : List Range) → IsMapFrom low (front ++ m) → begins_above index m ≡ false → EndBelow index front
before_reach index low front [] rise begins = absurd (cc)
before_reach index low [] (r ∷ m) rise begins = tt
before_reach index low (x ∷ front) (r ∷ m) rise begins =
    (omega (arith, at_least (x.last + 1) front rise.3, ltb-false index r.first begins), before_reach index (x.last + 1) front (r ∷ m) rise.3 begins)
  where
    at_least : (low : ℕ) (xs : List Range) → IsMapFrom low (xs ++ (r ∷ m)) → low ≤ r.first
    at_least low [] rise = rise.0
    at_least low (y ∷ ys) rise = omega (arith, rise.0, rise.1, at_least (y.last + 1) ys rise.3)

-- before a range that ends below an index all do
pub before_below : (index low : ℕ) (front m : List Range) → 0 < length m → IsMapFrom low (front ++ m) → EndBelow index m → EndBelow index (front ++ m)
before_below index low [] m some rise below = below
before_below index low (x ∷ front) [] some rise below = absurd (omega (arith, some))
before_below index low (x ∷ front) (r ∷ m) some rise below =
    (omega (arith, at_least (x.last + 1) front rise.3, below.0), before_below index (x.last + 1) front (r ∷ m) some rise.3 below)
  where
    at_least : (low : ℕ) (xs : List Range) → IsMapFrom low (xs ++ (r ∷ m)) → low ≤ r.last
    at_least low [] rise = omega (arith, rise.0, rise.1)
    at_least low (y ∷ ys) rise = omega (arith, rise.0, rise.1, at_least (y.last + 1) ys rise.3)

-- ---- shelves

pub filled_at : (shelves : List (List Range)) (i : ℕ) (d : List Range) → i < length shelves → AllFilled shelves → 0 < length (get_or shelves i d)
filled_at [] i d within filled = absurd (omega (arith, within))
filled_at (s ∷ shelves) zero d within filled = filled.0
filled_at (s ∷ shelves) (suc i) d within filled = filled_at shelves i d (omega (arith, within)) filled.1

pub joined-append : (xs ys : List (List Range)) → joined (xs ++ ys) ≡ joined xs ++ joined ys
joined-append xs ys = flat_map-append (λ (s : List Range). s) xs ys

-- the shelves up to a place, and those from it on
pub joined_parts : (shelves : List (List Range)) (i : ℕ) → joined (take i shelves) ++ joined (drop i shelves) ≡ joined shelves
joined_parts shelves i = sym (joined-append (take i shelves) (drop i shelves)) ∙ ap joined (take-append-drop i shelves)

pub joined_take : (shelves : List (List Range)) (i : ℕ) (d : List Range) → i < length shelves → joined (take (i + 1) shelves) ≡ joined (take i shelves) ++ get_or shelves i d
joined_take shelves i d within = ap joined (take_more shelves i d within) ∙ (joined-append (take i shelves) (get_or shelves i d ∷ []) ∙ ap (λ (l : List Range). joined (take i shelves) ++ l) (append-nil (get_or shelves i d)))

pub joined_drop : (shelves : List (List Range)) (i : ℕ) (d : List Range) → i < length shelves → joined (drop i shelves) ≡ get_or shelves i d ++ joined (drop (i + 1) shelves)
joined_drop shelves i d within = ap joined (drop_more shelves i d within)

pub rise_front : (shelves : List (List Range)) (i : ℕ) → IsMapFrom 0 (joined shelves) → IsMapFrom 0 (joined (take i shelves))
rise_front shelves i rise = IsMapFrom-front 0 (joined (take i shelves)) (joined (drop i shelves)) (subst (IsMapFrom 0) (sym (joined_parts shelves i)) rise)

pub rise_back : (shelves : List (List Range)) (i : ℕ) → IsMapFrom 0 (joined shelves) → IsMapFrom 0 (joined (drop i shelves))
rise_back shelves i rise = IsMapFrom-back 0 (joined (take i shelves)) (joined (drop i shelves)) (subst (IsMapFrom 0) (sym (joined_parts shelves i)) rise)

pub front_ends_below : (shelves : List (List Range)) (index i : ℕ) (d : List Range) → i < length shelves → AreRising shelves → ends_below index (get_or shelves i d) ≡ true → EndBelow index (joined (take (i + 1) shelves))
front_ends_below shelves index i d within rising ends =
    let front : IsMapFrom 0 (joined (take i shelves) ++ get_or shelves i d) = subst (IsMapFrom 0) (joined_take shelves i d within) (rise_front shelves (i + 1) rising.rise) in
    subst (EndBelow index) (sym (joined_take shelves i d within))
    (before_below index 0 (joined (take i shelves)) (get_or shelves i d) (filled_at shelves i d within rising.filled) front (all_ends index 0 (get_or shelves i d) (IsMapFrom-back 0 (joined (take i shelves)) (get_or shelves i d) front) ends))

pub back_begins_above : (shelves : List (List Range)) (index i : ℕ) (d : List Range) → i < length shelves → AreRising shelves → begins_above index (get_or shelves i d) ≡ true → BeginAbove index (joined (drop i shelves))
back_begins_above shelves index i d within rising begins =
    subst (BeginAbove index) (sym (joined_drop shelves i d within))
    (all_begin index 0 (get_or shelves i d) (joined (drop (i + 1) shelves)) (filled_at shelves i d within rising.filled) (subst (IsMapFrom 0) (joined_drop shelves i d within) (rise_back shelves i rising.rise)) begins)
