-- The holes of a map, shelf by shelf, and which shelves have no room.
use Rattle.mt_shelves.proofs.Prelude.{◌≡◌, ℕ, ◌+◌, ◌<◌, ◌≤◌, ◌^◌, false, List, [], ◌∷◌, ◌++◌, Some, None, length, min, max, take, drop, get_or, nat_le, nat_lt, refl, sym, ap, ◌∙◌, subst, inl, inr, arith, append_assoc, AllByRecursion, cases_Bool, cond_both, leb-false, lt-leb, ltb-false, ltb-true, append-nil, drop_more, Kind, Range, Hole, clip, fits, high, hole_between, holes_from, kept, highest_in, low, lowest_in, IsMapFrom, greatest_of, kind_width, greatest_fits, highest_back, highest_before, kept-append, lowest_behind, lowest_front, no_hole, AreShelves, AreHolesUpTo, shelf_end, has_room, holes_after, holes_in, joined, shelf_start}
use Rattle.mt_shelves.proofs.LyingBeside.{filled_at, joined_drop, joined_parts, joined_take, rise_back, rise_front}

-- ---- holes, shelf by shelf

holes_behind : (top : ℕ) (r : Range) (m rest : List Range) → holes_from (r.last + 1) top (m ++ rest) ≡ holes_after (r.last + 1) m ++ holes_from (shelf_end (r ∷ m) + 1) top rest
holes_behind top r [] rest = refl
holes_behind top r (s ∷ m) rest =
    ap (λ (l : List Hole). hole_between (r.last + 1) s.first ++ l) (holes_behind top s m rest) ∙ sym (append_assoc (hole_between (r.last + 1) s.first) (holes_after (s.last + 1) m) (holes_from (shelf_end (s ∷ m) + 1) top rest))

pub holes_on : (first top : ℕ) (m rest : List Range) → 0 < length m → holes_from first top (m ++ rest) ≡ (hole_between first (shelf_start m) ++ holes_in m) ++ holes_from (shelf_end m + 1) top rest
holes_on first top [] rest some = absurd (omega (arith, some))
holes_on first top (r ∷ m) rest some =
    ap (λ (l : List Hole). hole_between first r.first ++ l) (holes_behind top r m rest) ∙ sym (append_assoc (hole_between first r.first) (holes_after (r.last + 1) m) (holes_from (shelf_end (r ∷ m) + 1) top rest))

pub above_end : (low : ℕ) (m rest : List Range) → 0 < length m → IsMapFrom low (m ++ rest) → IsMapFrom (shelf_end m + 1) rest
above_end low [] rest some rise = absurd (omega (arith, some))
above_end low (r ∷ []) rest some rise = rise.3
above_end low (r ∷ s ∷ m) rest some rise = above_end (r.last + 1) (s ∷ m) rest (omega arith) rise.3

-- ---- shelves without room

none_kept : (n lo hi : ℕ) (holes : List Hole) → AllByRecursion (λ (x : Hole). fits n (clip lo hi x) ≡ false) holes → kept n lo hi holes ≡ []
none_kept n lo hi [] none = refl
none_kept n lo hi (x ∷ holes) none = rw none.0 (none_kept n lo hi holes none.1)

all_holes : (P Q : Hole → Type 0) → ((x : Hole) → P x → Q x) → (holes : List Hole) → AllByRecursion P holes → AllByRecursion Q holes
all_holes P Q each [] all = tt
all_holes P Q each (x ∷ holes) all = (each x all.0, all_holes P Q each holes all.1)

-- holes between ranges from an index on begin there or above, and end before the last range does
begin_after : (low : ℕ) (m : List Range) → IsMapFrom low m → AllByRecursion (λ (x : Hole). low ≤ x.first) (holes_after low m)
begin_after low [] rise = tt
begin_after low (r ∷ m) rise =
    let behind : AllByRecursion (λ (x : Hole). low ≤ x.first) (holes_after (r.last + 1) m) = all_holes (λ (x : Hole). r.last + 1 ≤ x.first) (λ (x : Hole). low ≤ x.first) (λ x from. omega (arith, from, rise.0, rise.1)) (holes_after (r.last + 1) m) (begin_after (r.last + 1) m rise.3) in
    cond_both (nat_lt low r.first) _ _ (λ (hole : List Hole). AllByRecursion (λ (x : Hole). low ≤ x.first) (hole ++ holes_after (r.last + 1) m)) (λ some. (omega arith, behind)) (λ none. behind)

last_above : (low : ℕ) (r : Range) (m : List Range) → IsMapFrom low (r ∷ m) → r.last ≤ shelf_end (r ∷ m)
last_above low r [] rise = omega arith
last_above low r (s ∷ m) rise = omega (arith, rise.3.0, rise.3.1, last_above (r.last + 1) s m rise.3)

end_before : (before : ℕ) (r : Range) (m : List Range) → IsMapFrom before (r ∷ m) → AllByRecursion (λ (x : Hole). x.last < shelf_end (r ∷ m)) (holes_after (r.last + 1) m)
end_before before r [] rise = tt
end_before before r (s ∷ m) rise =
    let behind : AllByRecursion (λ (x : Hole). x.last < shelf_end (s ∷ m)) (holes_after (s.last + 1) m) = end_before (r.last + 1) s m rise.3 in
    cond_both (nat_lt (r.last + 1) s.first) _ _ (λ (hole : List Hole). AllByRecursion (λ (x : Hole). x.last < shelf_end (s ∷ m)) (hole ++ holes_after (s.last + 1) m))
    (λ some. (omega (arith, rise.3.1, last_above (r.last + 1) s m rise.3, ltb-true (r.last + 1) s.first some), behind))
    (λ none. behind)

holes_begin : (m : List Range) → IsMapFrom 0 m → AllByRecursion (λ (x : Hole). shelf_start m < x.first) (holes_in m)
holes_begin [] rise = tt
holes_begin (r ∷ m) rise = all_holes (λ (x : Hole). r.last + 1 ≤ x.first) (λ (x : Hole). r.first < x.first) (λ x from. omega (arith, from, rise.1)) (holes_after (r.last + 1) m) (begin_after (r.last + 1) m rise.3)

holes_end : (m : List Range) → IsMapFrom 0 m → AllByRecursion (λ (x : Hole). x.last < shelf_end m) (holes_in m)
holes_end [] rise = tt
holes_end (r ∷ m) rise = end_before 0 r m rise

misfit : (n lo hi : ℕ) (x : Hole) → min hi x.last + 1 < max lo x.first + n → fits n (clip lo hi x) ≡ false
misfit n lo hi x less = lt-leb (max lo x.first + n) (min hi x.last + 1) less

pub no_room : (m : List Range) (room n lo hi : ℕ) → 1 ≤ n → IsMapFrom 0 m → AreHolesUpTo room (holes_in m) → has_room (shelf_start m) (shelf_end m) room n lo hi ≡ false → kept n lo hi (holes_in m) ≡ []
no_room m room n lo hi some rise up none = elim (cases_Bool (nat_le n room)) [
  | inr long ↦
      (let small : room < n = leb-false n room long in
      none_kept n lo hi (holes_in m) (all_holes (λ (x : Hole). x.last < x.first + room) (λ (x : Hole). fits n (clip lo hi x) ≡ false) (λ x less. misfit n lo hi x (omega (arith, less, small))) (holes_in m) up))
  | inl fine ↦
      elim (cases_Bool (nat_lt (shelf_start m) hi)) [
        | inr above ↦
            (let past : hi ≤ shelf_start m = ltb-false (shelf_start m) hi above in
            none_kept n lo hi (holes_in m) (all_holes (λ (x : Hole). shelf_start m < x.first) (λ (x : Hole). fits n (clip lo hi x) ≡ false) (λ x from. misfit n lo hi x (omega (arith, from, past, some))) (holes_in m) (holes_begin m rise)))
        | inl before ↦
            (let below : nat_lt lo (shelf_end m) ≡ false = rw (fine, before) at none in
            let past : shelf_end m ≤ lo = ltb-false lo (shelf_end m) below in
            none_kept n lo hi (holes_in m) (all_holes (λ (x : Hole). x.last < shelf_end m) (λ (x : Hole). fits n (clip lo hi x) ≡ false) (λ x to. misfit n lo hi x (omega (arith, to, past, some))) (holes_in m) (holes_end m rise)))
      ]
]

-- ---- from below

pub above_at : (m : List Range) (low i : ℕ) (d : Range) → i < length m → IsMapFrom low (drop i m) → low ≤ (get_or m i d).first
above_at m low i d within rise = (subst (IsMapFrom low) (drop_more m i d within) rise).0

-- no room in the hole before a shelf, nor on it
pub none_on : (n lo hi first : ℕ) (m : List Range) (room : ℕ) → 1 ≤ n → IsMapFrom 0 m → AreHolesUpTo room (holes_in m) → None ≡ lowest_in (kept n lo hi (hole_between first (shelf_start m))) → has_room (shelf_start m) (shelf_end m) room n lo hi ≡ false
    → None ≡ lowest_in (kept n lo hi (hole_between first (shelf_start m) ++ holes_in m))
none_on n lo hi first m room some rise up none misses =
    sym (ap lowest_in (kept-append n lo hi (hole_between first (shelf_start m)) (holes_in m)) ∙ (lowest_behind (kept n lo hi (hole_between first (shelf_start m))) (kept n lo hi (holes_in m)) none ∙ ap lowest_in (no_room m room n lo hi some rise up misses)))

module _ (kind : Kind) (shelves : List (List Range)) (n lo hi first at : ℕ) (d : List Range) (are : AreShelves kind shelves) (within : at < length shelves)
    (sought : lowest_in (kept n lo hi (holes_from first (greatest_of kind + 1) (joined (drop at shelves)))) ≡ low kind (joined shelves) n lo hi) where
  abbrev here : List Hole
  here = hole_between first (shelf_start (get_or shelves at d)) ++ holes_in (get_or shelves at d)

  abbrev behind : List Hole
  behind = holes_from (shelf_end (get_or shelves at d) + 1) (greatest_of kind + 1) (joined (drop (at + 1) shelves))

  parted : lowest_in (kept n lo hi here ++ kept n lo hi behind) ≡ low kind (joined shelves) n lo hi
  parted =
      ap lowest_in (sym (kept-append n lo hi here behind))
      ∙ (ap (λ (l : List Hole). lowest_in (kept n lo hi l)) (sym (ap (holes_from first (greatest_of kind + 1)) (joined_drop shelves at d within) ∙ holes_on first (greatest_of kind + 1) (get_or shelves at d) (joined (drop (at + 1) shelves)) (filled_at shelves at d within are.filled))) ∙ sought)

  pub found_low : (s : ℕ) → Some s ≡ lowest_in (kept n lo hi here) → Some s ≡ low kind (joined shelves) n lo hi
  found_low s is = lowest_front (kept n lo hi here) (kept n lo hi behind) s is ∙ parted

  pub sought_low : None ≡ lowest_in (kept n lo hi here) → lowest_in (kept n lo hi behind) ≡ low kind (joined shelves) n lo hi
  sought_low none = sym (lowest_behind (kept n lo hi here) (kept n lo hi behind) none) ∙ parted

  -- no index is left
  pub none_low : 2 ^ 64 ≤ shelf_end (get_or shelves at d) + 1 → None ≡ lowest_in (kept n lo hi here) → None ≡ low kind (joined shelves) n lo hi
  none_low past none = ap (λ (l : List Hole). lowest_in (kept n lo hi l)) (sym ended) ∙ sought_low none
    where
      ended : behind ≡ []
      ended = ends (joined (drop (at + 1) shelves)) rise (within_back (joined (take (at + 1) shelves)) (joined (drop (at + 1) shelves)) (subst (AllByRecursion (λ (r : Range). r.last ≤ greatest_of kind)) (sym (joined_parts shelves (at + 1))) are.is.within))
        where
          within_back : (xs ys : List Range) → AllByRecursion (λ (r : Range). r.last ≤ greatest_of kind) (xs ++ ys) → AllByRecursion (λ (r : Range). r.last ≤ greatest_of kind) ys
          within_back [] ys all = all
          within_back (x ∷ xs) ys all = within_back xs ys all.1

          rise : IsMapFrom (shelf_end (get_or shelves at d) + 1) (joined (drop (at + 1) shelves))
          rise = above_end 0 (get_or shelves at d) (joined (drop (at + 1) shelves)) (filled_at shelves at d within are.filled) (subst (IsMapFrom 0) (joined_drop shelves at d within) (rise_back shelves at are.is.rise))

          ends : (m : List Range) → IsMapFrom (shelf_end (get_or shelves at d) + 1) m → AllByRecursion (λ (r : Range). r.last ≤ greatest_of kind) m → holes_from (shelf_end (get_or shelves at d) + 1) (greatest_of kind + 1) m ≡ []
          ends [] rise all = no_hole (shelf_end (get_or shelves at d) + 1) (greatest_of kind + 1) (omega (arith, past, greatest_fits (kind_width kind)))
          ends (r ∷ m) rise all = absurd (omega (arith, rise.0, rise.1, all.0, past, greatest_fits (kind_width kind)))

-- ---- from above

after_back : (x r : Range) (front : List Range) → holes_after (x.last + 1) (front ++ (r ∷ [])) ≡ holes_after (x.last + 1) front ++ hole_between (shelf_end (x ∷ front) + 1) r.first
after_back x r [] = append-nil (hole_between (x.last + 1) r.first)
after_back x r (s ∷ front) =
    ap (λ (l : List Hole). hole_between (x.last + 1) s.first ++ l) (after_back s r front) ∙ sym (append_assoc (hole_between (x.last + 1) s.first) (holes_after (s.last + 1) front) (hole_between (shelf_end (s ∷ front) + 1) r.first))

back_holes : (front : List Range) (r : Range) → 0 < length front → holes_in (front ++ (r ∷ [])) ≡ holes_in front ++ hole_between (shelf_end front + 1) r.first
back_holes [] r some = absurd (omega (arith, some))
back_holes (x ∷ front) r some = after_back x r front

-- the last range of some, and the one before it
module _ (n lo hi : ℕ) (rest below : List Range) (r : Range) (parts : rest ≡ below ++ (r ∷ [])) (some : 0 < length below) where
  last_parted : highest_in n (kept n lo hi (holes_in below) ++ kept n lo hi (hole_between (shelf_end below + 1) r.first)) ≡ highest_in n (kept n lo hi (holes_in rest))
  last_parted = ap (highest_in n) (sym (kept-append n lo hi (holes_in below) (hole_between (shelf_end below + 1) r.first))) ∙ ap (λ (l : List Hole). highest_in n (kept n lo hi l)) (sym (ap holes_in parts ∙ back_holes below r some))

  pub found_last : (s : ℕ) → Some s ≡ highest_in n (kept n lo hi (hole_between (shelf_end below + 1) r.first)) → Some s ≡ highest_in n (kept n lo hi (holes_in rest))
  found_last s is = highest_back n (kept n lo hi (holes_in below)) (kept n lo hi (hole_between (shelf_end below + 1) r.first)) s is ∙ last_parted

  pub sought_last : None ≡ highest_in n (kept n lo hi (hole_between (shelf_end below + 1) r.first)) → highest_in n (kept n lo hi (holes_in below)) ≡ highest_in n (kept n lo hi (holes_in rest))
  sought_last none = sym (highest_before n (kept n lo hi (holes_in below)) (kept n lo hi (hole_between (shelf_end below + 1) r.first)) none) ∙ last_parted

  pub begins_behind : IsMapFrom 0 rest → shelf_end below + 1 ≤ r.first
  begins_behind rise = (above_end 0 below (r ∷ []) some (subst (IsMapFrom 0) parts rise)).0

-- no room in the hole behind a shelf, nor on it
pub none_on_down : (n lo hi last : ℕ) (m : List Range) (room : ℕ) → 1 ≤ n → IsMapFrom 0 m → AreHolesUpTo room (holes_in m) → None ≡ highest_in n (kept n lo hi (hole_between (shelf_end m + 1) (last + 1))) → has_room (shelf_start m) (shelf_end m) room n lo hi ≡ false
    → None ≡ highest_in n (kept n lo hi (holes_in m ++ hole_between (shelf_end m + 1) (last + 1)))
none_on_down n lo hi last m room some rise up none misses =
    sym (ap (highest_in n) (kept-append n lo hi (holes_in m) (hole_between (shelf_end m + 1) (last + 1)))
    ∙ (highest_before n (kept n lo hi (holes_in m)) (kept n lo hi (hole_between (shelf_end m + 1) (last + 1))) none ∙ ap (highest_in n) (no_room m room n lo hi some rise up misses)))

pub found_on_down : (n lo hi last : ℕ) (m : List Range) (s : ℕ) → Some s ≡ highest_in n (kept n lo hi (hole_between (shelf_end m + 1) (last + 1))) → Some s ≡ highest_in n (kept n lo hi (holes_in m ++ hole_between (shelf_end m + 1) (last + 1)))
found_on_down n lo hi last m s is =
    highest_back n (kept n lo hi (holes_in m)) (kept n lo hi (hole_between (shelf_end m + 1) (last + 1))) s is ∙ ap (highest_in n) (sym (kept-append n lo hi (holes_in m) (hole_between (shelf_end m + 1) (last + 1))))

pub holes_up_to : (low top : ℕ) (front m : List Range) → 0 < length m → holes_from low top (front ++ m) ≡ holes_from low (shelf_start m) front ++ (holes_in m ++ hole_between (shelf_end m + 1) top)
holes_up_to low top [] m some =
    ap (holes_from low top) (sym (append-nil m)) ∙ (holes_on low top m [] some ∙ append_assoc (hole_between low (shelf_start m)) (holes_in m) (hole_between (shelf_end m + 1) top))
holes_up_to low top (x ∷ front) m some =
    ap (λ (l : List Hole). hole_between low x.first ++ l) (holes_up_to (x.last + 1) top front m some) ∙ sym (append_assoc (hole_between low x.first) (holes_from (x.last + 1) (shelf_start m) front) (holes_in m ++ hole_between (shelf_end m + 1) top))

start_above : (low : ℕ) (front m : List Range) → 0 < length m → IsMapFrom low (front ++ m) → low ≤ shelf_start m
start_above low [] [] some rise = absurd (omega (arith, some))
start_above low [] (r ∷ m) some rise = rise.0
start_above low (x ∷ front) m some rise = omega (arith, rise.0, rise.1, start_above (x.last + 1) front m some rise.3)

module _ (kind : Kind) (shelves : List (List Range)) (n lo hi last at : ℕ) (d : List Range) (are : AreShelves kind shelves) (within : at < length shelves)
    (sought : highest_in n (kept n lo hi (holes_from 0 (last + 1) (joined (take (at + 1) shelves)))) ≡ high kind (joined shelves) n lo hi) where
  abbrev there : List Hole
  there = holes_in (get_or shelves at d) ++ hole_between (shelf_end (get_or shelves at d) + 1) (last + 1)

  abbrev before : List Hole
  before = holes_from 0 (shelf_start (get_or shelves at d)) (joined (take at shelves))

  parted_down : highest_in n (kept n lo hi before ++ kept n lo hi there) ≡ high kind (joined shelves) n lo hi
  parted_down =
      ap (highest_in n) (sym (kept-append n lo hi before there))
      ∙ (ap (λ (l : List Hole). highest_in n (kept n lo hi l)) (sym (ap (holes_from 0 (last + 1)) (joined_take shelves at d within) ∙ holes_up_to 0 (last + 1) (joined (take at shelves)) (get_or shelves at d) (filled_at shelves at d within are.filled))) ∙ sought)

  pub found_high : (s : ℕ) → Some s ≡ highest_in n (kept n lo hi there) → Some s ≡ high kind (joined shelves) n lo hi
  found_high s is = highest_back n (kept n lo hi before) (kept n lo hi there) s is ∙ parted_down

  pub sought_high : None ≡ highest_in n (kept n lo hi there) → highest_in n (kept n lo hi before) ≡ high kind (joined shelves) n lo hi
  sought_high none = sym (highest_before n (kept n lo hi before) (kept n lo hi there) none) ∙ parted_down

  -- no index is left
  pub none_high : shelf_start (get_or shelves at d) ≡ 0 → None ≡ highest_in n (kept n lo hi there) → None ≡ high kind (joined shelves) n lo hi
  none_high first none = ap (λ (l : List Hole). highest_in n (kept n lo hi l)) (sym (ended (joined (take at shelves)) rise)) ∙ sought_high none
    where
      rise : IsMapFrom 0 (joined (take at shelves) ++ get_or shelves at d)
      rise = subst (IsMapFrom 0) (joined_take shelves at d within) (rise_front shelves (at + 1) are.is.rise)

      ended : (front : List Range) → IsMapFrom 0 (front ++ get_or shelves at d) → holes_from 0 (shelf_start (get_or shelves at d)) front ≡ []
      ended [] rise = no_hole 0 (shelf_start (get_or shelves at d)) (omega (arith, first))
      ended (x ∷ front) rise = absurd (omega (arith, first, start_above (x.last + 1) front (get_or shelves at d) (filled_at shelves at d within are.filled) rise.3))
