-- A search finds room in the window where no range is, and finds the lowest or the highest.
use Rattle.mt_base.proofs.Prelude.{◌≡◌, ℕ, ◌+◌, ◌-◌, ◌<◌, ◌≤◌, false, List, [], ◌∷◌, ◌++◌, Option, Some, None, min, max, length, arith, nat_lt, nat_le, refl, inl, inr, subst, zero, suc, AllByRecursion, slice_get, option_map, cond_both, cases_Bool, or_parts, and_left, and_right, ltb-true, leb-true, leb-false, lt-leb, le-leb, Kind, Range, greatest_of, IsMapFrom, IsMap, overlaps, is_held, Hole, holes_from, clip, fits, kept, lowest_in, highest_in, low, high, IsRoom, holes_to}
use Rattle.mt_base.proofs.Lists.{all_map}

abbrev pub holes : Kind → List Range → List Hole
holes kind = holes_to (greatest_of kind)

-- ---- free areas

-- a range that has no index of an area has none of a part of it
part_is_missed : (r : Range) (first last first' last' : ℕ) → first ≤ first' → last' ≤ last → overlaps first last r ≡ false → overlaps first' last' r ≡ false
part_is_missed r first last first' last' from to missed =
    elim (cases_Bool (nat_le r.first last')) [
      | inl begins ↦
          let ends : nat_le first r.last ≡ false = rw (le-leb r.first last (omega (arith, leb-true r.first last' begins))) at missed in
          and_right (nat_le r.first last') (nat_le first' r.last) (lt-leb first' r.last (omega (arith, leb-false first r.last ends)))
      | inr above ↦ and_left (nat_le r.first last') (nat_le first' r.last) above
    ]

-- a part of a free area is free
pub part_is_free : (m : List Range) (first last first' last' : ℕ) → first ≤ first' → last' ≤ last → is_held m first last ≡ false → is_held m first' last' ≡ false
part_is_free [] first last first' last' from to free = refl
part_is_free (r ∷ m) first last first' last' from to free =
    let parts = or_parts (overlaps first last r) (is_held m first last) free in
    rw (part_is_missed r first last first' last' from to parts.0) (part_is_free m first last first' last' from to parts.1)

-- an area below a map is free
free_below : (m : List Range) (low first last : ℕ) → last < low → IsMapFrom low m → is_held m first last ≡ false
free_below [] low first last lt ordered = refl
free_below (r ∷ m) low first last lt ordered = rw (lt-leb r.first last (omega (arith, ordered.0))) (free_below m (r.last + 1) first last (omega (arith, ordered.0, ordered.1)) ordered.3)

-- ---- holes

-- a hole lies from `lo` on, and no range of the map holds one of its indexes
pub record IsFreeHole (m : List Range) (lo : ℕ) (x : Hole) : Type 0 where
  pub from : lo ≤ x.first
  free : is_held m x.first x.last ≡ false

-- a hole behind a range
behind_range : (r : Range) (m : List Range) (lo : ℕ) (x : Hole) → lo ≤ r.first → r.first ≤ r.last → IsFreeHole m (r.last + 1) x → IsFreeHole (r ∷ m) lo x
behind_range r m lo x from order hole = record {
  from = omega (arith, hole.from);
  free = rw (and_right (nat_le r.first x.last) (nat_le x.first r.last) (lt-leb x.first r.last (omega (arith, hole.from)))) hole.free;
}

pub holes_are_free : (m : List Range) (lo hi : ℕ) → IsMapFrom lo m → AllByRecursion (IsFreeHole m lo) (holes_from lo hi m)
holes_are_free [] lo hi ordered =
    cond_both (nat_lt lo hi) _ _ (λ hole. AllByRecursion (IsFreeHole [] lo) hole) (λ some. (record { from = omega arith; free = refl }, tt)) (λ none. tt)
holes_are_free (r ∷ m) lo hi ordered =
    let behind : AllByRecursion (IsFreeHole (r ∷ m) lo) (holes_from (r.last + 1) hi m) =
    all_map (IsFreeHole m (r.last + 1)) (IsFreeHole (r ∷ m) lo) (λ x hole. behind_range r m lo x ordered.0 ordered.1 hole) _ (holes_are_free m (r.last + 1) hi ordered.3) in
    cond_both (nat_lt lo r.first) _ _ (λ hole. AllByRecursion (IsFreeHole (r ∷ m) lo) (hole ++ holes_from (r.last + 1) hi m))
    (λ some. (record { from = omega arith; free = free_below (r ∷ m) r.first lo (r.first - 1) (omega (arith, ltb-true lo r.first some)) (omega arith, ordered.1, ordered.2, ordered.3) }, behind))
    (λ none. behind)

-- ---- what is kept of them

-- the area lies in the window, has so many indexes, and is free
record IsRoomy (m : List Range) (n lo hi : ℕ) (x : Hole) : Type 0 where
  from : lo ≤ x.first
  size : x.first + n ≤ x.last + 1
  to : x.last ≤ hi
  free : is_held m x.first x.last ≡ false

kept_are_roomy : (m : List Range) (n lo hi a : ℕ) (xs : List Hole) → AllByRecursion (IsFreeHole m a) xs → AllByRecursion (IsRoomy m n lo hi) (kept n lo hi xs)
kept_are_roomy m n lo hi a [] each = tt
kept_are_roomy m n lo hi a (x ∷ xs) each =
    let behind = kept_are_roomy m n lo hi a xs each.1 in
    cond_both (fits n (clip lo hi x)) _ _ (λ hole. AllByRecursion (IsRoomy m n lo hi) hole)
    (λ whole. (
      record {
        from = omega arith;
        size = leb-true (max lo x.first + n) (min hi x.last + 1) whole;
        to = omega arith;
        free = part_is_free m x.first x.last (max lo x.first) (min hi x.last) (omega arith) (omega arith) each.0.free;
      },
      behind,
    ))
    (λ short. behind)

-- ---- what a search finds

room_from : (m : List Range) (n lo hi s : ℕ) (x : Hole) → 1 ≤ n → IsRoomy m n lo hi x → s ≡ x.first → IsRoom m n lo hi s
room_from m n lo hi s x some roomy at = record {
  from = omega (arith, roomy.from);
  to = omega (arith, roomy.size, roomy.to);
  free = part_is_free m x.first x.last s (s + n - 1) (omega arith) (omega (arith, roomy.size)) roomy.free;
}

room_up_to : (m : List Range) (n lo hi s : ℕ) (x : Hole) → 1 ≤ n → IsRoomy m n lo hi x → s ≡ x.last + 1 - n → IsRoom m n lo hi s
room_up_to m n lo hi s x some roomy at = record {
  from = omega (arith, roomy.from, roomy.size);
  to = omega (arith, roomy.size, roomy.to);
  free = part_is_free m x.first x.last s (s + n - 1) (omega (arith, roomy.size)) (omega (arith, roomy.size)) roomy.free;
}

lowest_is_room : (m : List Range) (n lo hi s : ℕ) (xs : List Hole) → 1 ≤ n → AllByRecursion (IsRoomy m n lo hi) xs → lowest_in xs ≡ Some s → IsRoom m n lo hi s
lowest_is_room m n lo hi s [] some each at = absurd (cc)
lowest_is_room m n lo hi s (x ∷ xs) some each at = room_from m n lo hi s x some each.0 (let same : s ≡ x.first = cc in same)

highest_is_room : (m : List Range) (n lo hi s : ℕ) (xs : List Hole) → 1 ≤ n → AllByRecursion (IsRoomy m n lo hi) xs → highest_in n xs ≡ Some s → IsRoom m n lo hi s
highest_is_room m n lo hi s xs some each at = at_end (slice_get xs (length xs - 1)) (λ x is. get_all xs (length xs - 1) x each is) at
  where
    get_all : (ys : List Hole) (i : ℕ) (x : Hole) → AllByRecursion (IsRoomy m n lo hi) ys → slice_get ys i ≡ Some x → IsRoomy m n lo hi x
    get_all [] i x each is = absurd (cc)
    get_all (y ∷ ys) zero x each is = let same : y ≡ x = cc in subst (IsRoomy m n lo hi) same each.0
    get_all (y ∷ ys) (suc i) x each is = get_all ys i x each.1 is

    at_end : (o : Option Hole) → ((x : Hole) → o ≡ Some x → IsRoomy m n lo hi x) → option_map (λ (x : Hole). x.last + 1 - n) o ≡ Some s → IsRoom m n lo hi s
    at_end None roomy found = absurd (cc)
    at_end (Some x) roomy found = room_up_to m n lo hi s x some (roomy x refl) (let same : s ≡ x.last + 1 - n = cc in same)

kept_roomy : (kind : Kind) (m : List Range) (n lo hi : ℕ) → IsMap kind m → AllByRecursion (IsRoomy m n lo hi) (kept n lo hi (holes kind m))
kept_roomy kind m n lo hi is = kept_are_roomy m n lo hi 0 (holes kind m) (holes_are_free m 0 (greatest_of kind + 1) is.rise)

pub low_is_room : (kind : Kind) (m : List Range) (n lo hi s : ℕ) → IsMap kind m → 1 ≤ n → low kind m n lo hi ≡ Some s → IsRoom m n lo hi s
low_is_room kind m n lo hi s is some at = lowest_is_room m n lo hi s (kept n lo hi (holes kind m)) some (kept_roomy kind m n lo hi is) at

pub high_is_room : (kind : Kind) (m : List Range) (n lo hi s : ℕ) → IsMap kind m → 1 ≤ n → high kind m n lo hi ≡ Some s → IsRoom m n lo hi s
high_is_room kind m n lo hi s is some at = highest_is_room m n lo hi s (kept n lo hi (holes kind m)) some (kept_roomy kind m n lo hi is) at
