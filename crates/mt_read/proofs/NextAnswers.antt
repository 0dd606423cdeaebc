-- What a map has behind an index, by what it has in the slot that holds the index.
use Rattle.mt_read.proofs.Prelude.{◌≡◌, ℕ, ◌+◌, ◌<◌, ◌≤◌, ◌&&◌, Bool, true, false, List, [], ◌∷◌, None, arith, nat_lt, nat_le, refl, sym, ap, ◌∙◌, inl, inr, filter, AllByRecursion, cases_Bool, and_left, and_right, ltb-true, leb-false, lt-ltb, le-ltb, lt-leb, le-leb, Range, Kind, Find, Next, answer, IsMap, IsMapFrom, first_range, greatest_of, all_map, within}
use Rattle.mt_read.proofs.MapAnswers.{Beside, find_test, same_filter, none_pass}

abbrev pub next_test : ℕ → ℕ → Range → Bool
next_test index max r = nat_lt index r.first && nat_le r.first max

-- what begins behind an index of a slot is what ends behind the slot
module _ (m : List Range) (top a b index max : ℕ) (each : AllByRecursion (Beside top a b) m) (from : a ≤ index) (to : index ≤ b) where
  agree : (r : Range) → Beside top a b r → next_test index max r ≡ find_test (b + 1) max r
  agree r (order, inl below) = let o = order.0 in ap (λ (t : Bool). t && nat_le r.first max) (le-ltb index r.first (omega arith) ∙ sym (lt-leb (b + 1) r.last (omega arith)))
  agree r (order, inr (inl above)) = let o = order.0 in ap (λ (t : Bool). t && nat_le r.first max) (lt-ltb index r.first (omega arith) ∙ sym (le-leb (b + 1) r.last (omega arith)))
  agree r (order, inr (inr (first, last))) = let o = order.0 in ap (λ (t : Bool). t && nat_le r.first max) (le-ltb index r.first (omega arith) ∙ sym (lt-leb (b + 1) r.last (omega arith)))

  fails : max < b + 1 → (r : Range) → Beside top a b r → next_test index max r ≡ false
  fails few r (order, inl below) = let o = order.0 in and_left (nat_lt index r.first) (nat_le r.first max) (le-ltb index r.first (omega arith))
  fails few r (order, inr (inl above)) = and_right (nat_lt index r.first) (nat_le r.first max) (lt-leb r.first max (omega arith))
  fails few r (order, inr (inr (first, last))) = and_left (nat_lt index r.first) (nat_le r.first max) (le-ltb index r.first (omega arith))

  pub next_is : answer m (Next index max) ≡ answer m (Find (b + 1) max)
  next_is = elim (cases_Bool (nat_lt max (b + 1))) [
    | inl few ↦ rw few (ap first_range (none_pass (next_test index max) m (all_map (Beside top a b) (λ (r : Range). next_test index max r ≡ false) (fails (ltb-true max (b + 1) few)) m each)))
    | inr more ↦ rw more (ap first_range (same_filter (next_test index max) (find_test (b + 1) max) m (all_map (Beside top a b) (λ (r : Range). next_test index max r ≡ find_test (b + 1) max r) agree m each)))
  ]

-- nothing ends behind the greatest index
pub none_behind : (kind : Kind) (m : List Range) (max : ℕ) → IsMap kind m → answer m (Find (greatest_of kind + 1) max) ≡ None
none_behind kind m max map = elim (cases_Bool (nat_lt max (greatest_of kind + 1))) [
  | inl few ↦ rw few refl
  | inr more ↦ rw more (ap first_range (none_pass (find_test (greatest_of kind + 1) max) m
      (all_map (λ (r : Range). r.last ≤ greatest_of kind) (λ (r : Range). find_test (greatest_of kind + 1) max r ≡ false) (λ r low. and_left (nat_le (greatest_of kind + 1) r.last) (nat_le r.first max) (lt-leb (greatest_of kind + 1) r.last (omega arith))) m map.within)))
]

-- ---- a bound

all_above : (index max low : ℕ) (m : List Range) → max < low → IsMapFrom low m → filter (next_test index max) m ≡ []
all_above index max low [] above rise = refl
all_above index max low (r ∷ m) above rise =
    let begins = rise.0 in let order = rise.1 in
    rw (and_right (nat_lt index r.first) (nat_le r.first max) (lt-leb r.first max (omega arith))) (all_above index max (r.last + 1) m (omega arith) rise.3)

bounded : (index max low end : ℕ) (m : List Range) → IsMapFrom low m → AllByRecursion (λ (r : Range). r.last ≤ end) m
    → within 0 max (first_range (filter (next_test index end) m)) ≡ first_range (filter (next_test index max) m)
bounded index max low end [] rise ends = refl
bounded index max low end (r ∷ m) rise ends = elim (cases_Bool (nat_lt index r.first)) [
  | inr fails ↦ rw fails (bounded index max (r.last + 1) end m rise.3 ends.1)
  | inl passes ↦
      (let order = rise.1 in let stops = ends.0 in
      let here : nat_le r.first end ≡ true = le-leb r.first end (omega arith) in
      elim (cases_Bool (nat_le r.first max)) [
        | inl low ↦ rw (passes, here, low, le-leb 0 max (omega arith)) refl
        | inr high ↦ (let above = leb-false r.first max high in rw (passes, here, high, le-leb 0 max (omega arith)) (sym (ap first_range (all_above index max (r.last + 1) m (omega arith) rise.3))))
      ])
]

pub next_within : (kind : Kind) (m : List Range) (index max : ℕ) → IsMap kind m → within 0 max (answer m (Next index (greatest_of kind))) ≡ answer m (Next index max)
next_within kind m index max map = bounded index max 0 (greatest_of kind) m map.rise map.within
