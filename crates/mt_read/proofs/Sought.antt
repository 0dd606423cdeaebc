-- What a map answers at an index above the greatest, by what it answers at the index that is walked to.
use Rattle.mt_read.proofs.Prelude.{◌≡◌, ℕ, ◌<◌, ◌≤◌, ◌&&◌, Bool, true, false, List, [], ◌∷◌, Option, Some, None, arith, nat_lt, nat_le, refl, sym, ap, ◌∙◌, inl, inr, filter, find, IfSome, if◌then◌else◌, AllByRecursion, min-eq_left, cases_Bool, cases_lt, and_left, and_right, and_parts, le-ltb, lt-leb, le-leb, Range, Kind, Load, Find, Next, Rfind, answer, IsMap, holds, first_range, greatest_of, none_found_above, none_holds_above, none_next_above, rfind_above, all_map, not_below, sought}
use Rattle.mt_read.proofs.MapAnswers.{Ordered, find_is, find_test, in_order, none_pass}

-- ---- the index that is walked to

pub sought_low : (kind : Kind) (index : ℕ) → index ≤ greatest_of kind → sought kind index ≡ index
sought_low kind index low = min-eq_left low

pub sought_above : (kind : Kind) (index : ℕ) → greatest_of kind < index → sought kind index ≡ greatest_of kind
sought_above kind index above = omega arith

-- ---- a range that ends below an index

all_below : (index : ℕ) (o : Option Range) → IfSome o (λ (r : Range). r.last < index) → not_below index index o ≡ None
all_below index None low = refl
all_below index (Some r) low = rw (and_right (nat_le index index) (nat_le index r.last) (lt-leb index r.last low)) refl

not_ended : (index : ℕ) (r : Range) → nat_le index r.last ≡ true → not_below index index (Some r) ≡ Some r
not_ended index r ends = rw (le-leb index index (omega arith), ends) refl

-- what is left of a range, where there is one
pub some_not_below : (P : Range → Type 0) (index low : ℕ) (o : Option Range) → IfSome o P → IfSome (not_below index low o) P
some_not_below P index low None h = tt
some_not_below P index low (Some r) h = by_test (nat_le low index && nat_le low r.last)
  where
    by_test : (b : Bool) → IfSome (if b then Some r else None) P
    by_test true = h
    by_test false = tt

-- ---- lists of which something is known

first_kept : (P : Range → Type 0) (p : Range → Bool) (m : List Range) → AllByRecursion P m → IfSome (first_range (filter p m)) P
first_kept P p [] each = tt
first_kept P p (r ∷ m) each = elim (cases_Bool (p r)) [
  | inl kept ↦ rw kept each.0
  | inr gone ↦ rw gone (first_kept P p m each.1)
]

first_met : (P : Range → Type 0) (p : Range → Bool) (m : List Range) → AllByRecursion P m → IfSome (find p m) P
first_met P p [] each = tt
first_met P p (r ∷ m) each = elim (cases_Bool (p r)) [
  | inl met ↦ rw met each.0
  | inr gone ↦ rw gone (first_met P p m each.1)
]

held_stays : (m : List Range) (index : ℕ) → not_below index index (answer m (Load index)) ≡ answer m (Load index)
held_stays [] index = refl
held_stays (r ∷ m) index = elim (cases_Bool (holds index r)) [
  | inl holds ↦ rw holds (not_ended index r (and_parts (nat_le r.first index) (nat_le index r.last) holds).1)
  | inr gone ↦ rw gone (held_stays m index)
]

found_stays : (index max : ℕ) (m : List Range) → not_below index index (first_range (filter (find_test index max) m)) ≡ first_range (filter (find_test index max) m)
found_stays index max [] = refl
found_stays index max (r ∷ m) = elim (cases_Bool (find_test index max r)) [
  | inl kept ↦ rw kept (not_ended index r (and_parts (nat_le index r.last) (nat_le r.first max) kept).0)
  | inr gone ↦ rw gone (found_stays index max m)
]

-- ---- of a map of a tree

module _ (kind : Kind) (m : List Range) (index : ℕ) (map : IsMap kind m) where
  abbrev top : ℕ
  top = greatest_of kind

  abbrev to : ℕ
  to = sought kind index

  below : top < index → AllByRecursion (λ (r : Range). r.last < index) m
  below above = all_map (λ (r : Range). r.last ≤ top) (λ (r : Range). r.last < index) (λ r low. omega arith) m map.within

  pub load_sought : not_below index index (answer m (Load to)) ≡ answer m (Load index)
  load_sought = elim (cases_lt top index) [
    | inl above ↦ all_below index (answer m (Load to)) (first_met (λ (r : Range). r.last < index) (holds to) m (below above)) ∙ sym (none_holds_above kind m index map above)
    | inr low ↦ ap (λ (n : ℕ). not_below index index (answer m (Load n))) (sought_low kind index low) ∙ held_stays m index
  ]

  found : (i : ℕ) → i ≤ top → not_below index index (answer m (Find i top)) ≡ not_below index index (first_range (filter (find_test i top) m))
  found i low = ap (not_below index index) (find_is kind m map i i low)

  pub find_sought : not_below index index (answer m (Find to top)) ≡ answer m (Find index top)
  find_sought = elim (cases_lt top index) [
    | inl above ↦
        found to (omega arith) ∙ (all_below index (first_range (filter (find_test to top) m)) (first_kept (λ (r : Range). r.last < index) (find_test to top) m (below above)) ∙ sym (none_found_above kind m index top map above))
    | inr low ↦
        ap (λ (n : ℕ). not_below index index (answer m (Find n top))) (sought_low kind index low) ∙ (found index low ∙ (found_stays index top m ∙ sym (find_is kind m map index index low)))
  ]

  none_behind_top : answer m (Next top top) ≡ None
  none_behind_top = ap first_range (none_pass (λ (r : Range). nat_lt top r.first && nat_le r.first top) m
      (all_map (Ordered top) (λ (r : Range). (nat_lt top r.first && nat_le r.first top) ≡ false)
      (λ r order. let begins = order.0 in let ends = order.1 in and_left (nat_lt top r.first) (nat_le r.first top) (le-ltb top r.first (omega arith))) m (in_order kind m map)))

  pub next_sought : answer m (Next to top) ≡ answer m (Next index top)
  next_sought = elim (cases_lt top index) [
    | inl above ↦ ap (λ (n : ℕ). answer m (Next n top)) (sought_above kind index above) ∙ (none_behind_top ∙ sym (none_next_above kind m index top map above))
    | inr low ↦ ap (λ (n : ℕ). answer m (Next n top)) (sought_low kind index low)
  ]

  pub rfind_sought : answer m (Rfind to 0) ≡ answer m (Rfind index 0)
  rfind_sought = elim (cases_lt top index) [
    | inl above ↦ ap (λ (n : ℕ). answer m (Rfind n 0)) (sought_above kind index above) ∙ sym (rfind_above kind m index 0 map above)
    | inr low ↦ ap (λ (n : ℕ). answer m (Rfind n 0)) (sought_low kind index low)
  ]
