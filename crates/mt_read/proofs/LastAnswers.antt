-- What a map has before an index, by what it has in the slot that holds the index.
use Rattle.mt_read.proofs.Prelude.{◌≡◌, ℕ, suc, ◌+◌, ◌-◌, ◌<◌, ◌≤◌, ◌&&◌, Bool, true, false, List, [], ◌∷◌, ◌++◌, Option, Some, None, length, arith, nat_lt, nat_le, refl, sym, ap, ◌∙◌, inl, inr, filter, AllByRecursion, slice_get, cases_Bool, ltb-true, ltb-false, and_left, and_right, leb-true, lt-ltb, le-ltb, lt-leb, le-leb, Range, Kind, Prev, Rfind, answer, IsMap, IsMapFrom, last_range, all_map, IsPart, not_below}
use Rattle.mt_read.proofs.MapAnswers.{Beside, Outside, same_filter, none_pass}

-- ---- the last range of a list

abbrev later : Option Range → Range → Option Range
later None r = Some r
later (Some s) r = Some s

last_shift : (r s : Range) (m : List Range) → last_range (r ∷ s ∷ m) ≡ last_range (s ∷ m)
last_shift r s m = let e : length (r ∷ s ∷ m) - 1 ≡ suc (length (s ∷ m) - 1) = omega arith in ap (slice_get (r ∷ s ∷ m)) e

some_last : (s : Range) (m : List Range) → (t : Range) × (last_range (s ∷ m) ≡ Some t)
some_last s [] = (s, refl)
some_last s (t ∷ m) = let rest = some_last t m in (rest.0, last_shift s t m ∙ rest.1)

last_cons : (r : Range) (m : List Range) → last_range (r ∷ m) ≡ later (last_range m) r
last_cons r [] = refl
last_cons r (s ∷ m) = let some = some_last s m in last_shift r s m ∙ (some.1 ∙ ap (λ (o : Option Range). later o r) (sym some.1))

-- the last that passes
keep_last : (p : Range → Bool) (front : List Range) (x : Range) (back : List Range) → p x ≡ true → AllByRecursion (λ (r : Range). p r ≡ false) back → last_range (filter p (front ++ (x ∷ back))) ≡ Some x
keep_last p [] x back passes each = rw (passes, none_pass p back each) refl
keep_last p (r ∷ front) x back passes each = elim (cases_Bool (p r)) [
  | inl kept ↦ rw kept (last_cons r (filter p (front ++ (x ∷ back))) ∙ ap (λ (o : Option Range). later o r) (keep_last p front x back passes each))
  | inr gone ↦ rw gone (keep_last p front x back passes each)
]

-- ---- the last range that begins at an index or below

abbrev pub rfind_test : ℕ → ℕ → Range → Bool
rfind_test index min r = nat_le r.first index && nat_le min r.last

abbrev pub prev_test : ℕ → ℕ → Range → Bool
prev_test index min r = nat_lt r.last index && nat_le min r.last

pub rfind_all : (m : List Range) (index : ℕ) → answer m (Rfind index 0) ≡ last_range (filter (rfind_test index 0) m)
rfind_all m index = rw (le-ltb index 0 (omega arith)) refl

pub rfind_range : (m : List Range) (x : Range) (index : ℕ) → IsPart m x.first x.last (x ∷ []) → x.first ≤ index → index ≤ x.last → Some x ≡ answer m (Rfind index 0)
rfind_range m x index part from to =
    let passes : rfind_test index 0 x ≡ true = rw (le-leb x.first index from, le-leb 0 x.last (omega arith)) refl in
    let fails = all_map (λ (r : Range). x.last < r.first) (λ (r : Range). rfind_test index 0 r ≡ false) (λ r above. and_left (nat_le r.first index) (nat_le 0 r.last) (lt-leb r.first index (omega arith))) part.back part.above in
    sym (rfind_all m index ∙ (ap (λ (l : List Range). last_range (filter (rfind_test index 0) l)) part.joined ∙ keep_last (rfind_test index 0) part.front x part.back passes fails))

module _ (m : List Range) (top a b index : ℕ) (each : AllByRecursion (Outside top a b) m) (from : a ≤ index) (to : index ≤ b) where
  agree : 0 < a → (r : Range) → Outside top a b r → rfind_test index 0 r ≡ rfind_test (a - 1) 0 r
  agree some r (order, inl below) = let o = order.0 in ap (λ (t : Bool). t && nat_le 0 r.last) (le-leb r.first index (omega arith) ∙ sym (le-leb r.first (a - 1) (omega arith)))
  agree some r (order, inr above) = ap (λ (t : Bool). t && nat_le 0 r.last) (lt-leb r.first index (omega arith) ∙ sym (lt-leb r.first (a - 1) (omega arith)))

  pub rfind_hole : 0 < a → answer m (Rfind index 0) ≡ answer m (Rfind (a - 1) 0)
  rfind_hole some =
      rfind_all m index ∙ (ap last_range (same_filter (rfind_test index 0) (rfind_test (a - 1) 0) m (all_map (Outside top a b) (λ (r : Range). rfind_test index 0 r ≡ rfind_test (a - 1) 0 r) (agree some) m each)) ∙ sym (rfind_all m (a - 1)))

  fails : a ≡ 0 → (r : Range) → Outside top a b r → rfind_test index 0 r ≡ false
  fails first r (order, inl below) = absurd (omega arith)
  fails first r (order, inr above) = and_left (nat_le r.first index) (nat_le 0 r.last) (lt-leb r.first index (omega arith))

  pub rfind_none : a ≡ 0 → None ≡ answer m (Rfind index 0)
  rfind_none first = sym (rfind_all m index ∙ ap last_range (none_pass (rfind_test index 0) m (all_map (Outside top a b) (λ (r : Range). rfind_test index 0 r ≡ false) (fails first) m each)))

-- ---- the last range that ends below an index

module _ (m : List Range) (top a b index : ℕ) (each : AllByRecursion (Beside top a b) m) (from : a ≤ index) (to : index ≤ b) where
  meets : 0 < a → (r : Range) → Beside top a b r → prev_test index 0 r ≡ rfind_test (a - 1) 0 r
  meets some r (order, inl below) = let o = order.0 in ap (λ (t : Bool). t && nat_le 0 r.last) (lt-ltb r.last index (omega arith) ∙ sym (le-leb r.first (a - 1) (omega arith)))
  meets some r (order, inr (inl above)) = let o = order.0 in ap (λ (t : Bool). t && nat_le 0 r.last) (le-ltb r.last index (omega arith) ∙ sym (lt-leb r.first (a - 1) (omega arith)))
  meets some r (order, inr (inr (first, last))) = ap (λ (t : Bool). t && nat_le 0 r.last) (le-ltb r.last index (omega arith) ∙ sym (lt-leb r.first (a - 1) (omega arith)))

  pub prev_is : 0 < a → answer m (Prev index 0) ≡ answer m (Rfind (a - 1) 0)
  prev_is some = ap last_range (same_filter (prev_test index 0) (rfind_test (a - 1) 0) m (all_map (Beside top a b) (λ (r : Range). prev_test index 0 r ≡ rfind_test (a - 1) 0 r) (meets some) m each)) ∙ sym (rfind_all m (a - 1))

  ends : a ≡ 0 → (r : Range) → Beside top a b r → prev_test index 0 r ≡ false
  ends first r (order, inl below) = absurd (omega arith)
  ends first r (order, inr (inl above)) = let o = order.0 in and_left (nat_lt r.last index) (nat_le 0 r.last) (le-ltb r.last index (omega arith))
  ends first r (order, inr (inr (start, last))) = and_left (nat_lt r.last index) (nat_le 0 r.last) (le-ltb r.last index (omega arith))

  pub prev_none : a ≡ 0 → None ≡ answer m (Prev index 0)
  prev_none first = sym (ap last_range (none_pass (prev_test index 0) m (all_map (Beside top a b) (λ (r : Range). prev_test index 0 r ≡ false) (ends first) m each)))

-- ---- a bound

module _ (min : ℕ) where
  all_end : (low : ℕ) (m : List Range) → min ≤ low → IsMapFrom low m → AllByRecursion (λ (r : Range). min ≤ r.last) m
  all_end low [] le rise = tt
  all_end low (r ∷ m) le rise = let first = rise.0 in let order = rise.1 in (omega arith, all_end (r.last + 1) m (omega arith) rise.3)

  kept_later : (o : Option Range) (r : Range) → not_below min min o ≡ o → min ≤ r.last → not_below min min (later o r) ≡ later o r
  kept_later None r same low = rw (le-leb min min (omega arith), le-leb min r.last low) refl
  kept_later (Some s) r same low = same

  keeps : (p : Range → Bool) (m : List Range) → AllByRecursion (λ (r : Range). min ≤ r.last) m → not_below min min (last_range (filter p m)) ≡ last_range (filter p m)
  keeps p [] each = refl
  keeps p (r ∷ m) each = elim (cases_Bool (p r)) [
    | inl kept ↦ rw (kept, last_cons r (filter p m)) (kept_later (last_range (filter p m)) r (keeps p m each.1) each.0)
    | inr gone ↦ rw gone (keeps p m each.1)
  ]

  gone_later : (o : Option Range) (r : Range) → nat_le min r.last ≡ false → not_below min min (later o r) ≡ not_below min min o
  gone_later None r low = rw (le-leb min min (omega arith), low) refl
  gone_later (Some s) r low = refl

  low_last : (p : Range → Bool) (low : ℕ) (m : List Range) → IsMapFrom low m → not_below min min (last_range (filter (λ r. p r && nat_le 0 r.last) m)) ≡ last_range (filter (λ r. p r && nat_le min r.last) m)
  low_last p low [] rise = refl
  low_last p low (r ∷ m) rise = elim (cases_Bool (nat_le min r.last)) [
    | inl ends ↦
        (let all : AllByRecursion (λ (s : Range). min ≤ s.last) (r ∷ m) = (leb-true min r.last ends, all_end (r.last + 1) m (let e = leb-true min r.last ends in omega arith) rise.3) in
        keeps (λ s. p s && nat_le 0 s.last) (r ∷ m) all
        ∙ ap last_range (same_filter (λ s. p s && nat_le 0 s.last) (λ s. p s && nat_le min s.last) (r ∷ m)
        (all_map (λ (s : Range). min ≤ s.last) (λ (s : Range). (p s && nat_le 0 s.last) ≡ (p s && nat_le min s.last)) (λ s h. ap (λ (t : Bool). p s && t) (le-leb 0 s.last (omega arith) ∙ sym (le-leb min s.last h))) (r ∷ m) all)))
    | inr below ↦
        (let behind = low_last p (r.last + 1) m rise.3 in
        let gone : (p r && nat_le min r.last) ≡ false = and_right (p r) (nat_le min r.last) below in
        elim (cases_Bool (p r)) [
          | inl kept ↦
              (let passes : (p r && nat_le 0 r.last) ≡ true = rw (kept, le-leb 0 r.last (omega arith)) refl in
              rw (passes, gone, last_cons r (filter (λ s. p s && nat_le 0 s.last) m)) (gone_later (last_range (filter (λ s. p s && nat_le 0 s.last) m)) r below ∙ behind))
          | inr fails ↦ (let skips : (p r && nat_le 0 r.last) ≡ false = and_left (p r) (nat_le 0 r.last) fails in rw (skips, gone) behind)
        ])
  ]

pub prev_within : (kind : Kind) (m : List Range) (index min : ℕ) → IsMap kind m → not_below min min (answer m (Prev index 0)) ≡ answer m (Prev index min)
prev_within kind m index min map = low_last min (λ r. nat_lt r.last index) 0 m map.rise

nothing_below : (index min : ℕ) (o : Option Range) → index < min → not_below index min o ≡ None
nothing_below index min None above = refl
nothing_below index min (Some r) above = rw (lt-leb min index above) refl

same_below : (index min : ℕ) (o : Option Range) → min ≤ index → not_below index min o ≡ not_below min min o
same_below index min None le = refl
same_below index min (Some r) le = rw (le-leb min index le, le-leb min min (omega arith)) refl

pub rfind_within : (kind : Kind) (m : List Range) (index min : ℕ) → IsMap kind m → not_below index min (answer m (Rfind index 0)) ≡ answer m (Rfind index min)
rfind_within kind m index min map = elim (cases_Bool (nat_lt index min)) [
  | inl above ↦ nothing_below index min (answer m (Rfind index 0)) (ltb-true index min above) ∙ sym (rw above refl)
  | inr upto ↦
      (let le = ltb-false index min upto in
      same_below index min (answer m (Rfind index 0)) le
      ∙ (ap (not_below min min) (rfind_all m index) ∙ (low_last min (λ r. nat_le r.first index) 0 m map.rise ∙ sym (rw upto refl))))
]
