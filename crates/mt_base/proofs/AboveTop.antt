-- What queries answer at an index above the greatest one: no range is there, and looking back begins at the greatest.
use Rattle.mt_base.proofs.Prelude.{◌≡◌, ℕ, ◌+◌, ◌<◌, ◌≤◌, List, [], ◌∷◌, None, refl, sym, ap, ◌∙◌, inl, inr, arith, nat_lt, nat_le, Bool, false, ◌&&◌, filter, find, if◌then◌else◌, AllByRecursion, cases_Bool, and_left, and_right, ltb-true, ltb-false, lt-leb, le-leb, lt-ltb, le-ltb, Kind, Range, Find, Next, Prev, Rfind, greatest_of, IsMapFrom, IsMap, holds, holding, first_range, last_range, answer}

-- ---- tests of ranges

none_kept : (p : Range → Bool) (m : List Range) → AllByRecursion (λ (r : Range). p r ≡ false) m → filter p m ≡ []
none_kept p [] none = refl
none_kept p (r ∷ m) none = rw none.0 (none_kept p m none.1)

none_met : (p : Range → Bool) (m : List Range) → AllByRecursion (λ (r : Range). p r ≡ false) m → find p m ≡ None
none_met p [] none = refl
none_met p (r ∷ m) none = rw none.0 (none_met p m none.1)

same_kept : (p q : Range → Bool) (m : List Range) → AllByRecursion (λ (r : Range). p r ≡ q r) m → filter p m ≡ filter q m
same_kept p q [] same = refl
same_kept p q (r ∷ m) same = λ i. if same.0 i then r ∷ same_kept p q m same.1 i else same_kept p q m same.1 i

-- ---- ranges up to the greatest index

-- a range ends behind its beginning, and at the greatest index or below
abbrev IsWithin : ℕ → Range → Type 0
IsWithin top r = (r.first ≤ r.last) × (r.last ≤ top)

each_within : (top lo : ℕ) (m : List Range) → IsMapFrom lo m → AllByRecursion (λ (r : Range). r.last ≤ top) m → (P : Range → Type 0) → ((r : Range) → IsWithin top r → P r) → AllByRecursion P m
each_within top lo [] rise within P each = tt
each_within top lo (r ∷ m) rise within P each = (each r (rise.1, within.0), each_within top (r.last + 1) m rise.3 within.1 P each)

module _ (kind : Kind) (m : List Range) (is : IsMap kind m) where
  each : (P : Range → Type 0) → ((r : Range) → IsWithin (greatest_of kind) r → P r) → AllByRecursion P m
  each = each_within (greatest_of kind) 0 m is.rise is.within

  module _ (index : ℕ) (above : greatest_of kind < index) where
    none_holds : holding m index ≡ None
    none_holds = none_met (holds index) m
        (each (λ r. holds index r ≡ false) (λ r within. let ends = within.1 in and_right (nat_le r.first index) (nat_le index r.last) (lt-leb index r.last (omega arith))))

    none_found : (max : ℕ) → answer m (Find index max) ≡ None
    none_found max = elim (cases_Bool (nat_lt max index)) [
      | inl low ↦ rw low refl
      | inr high ↦ rw high (ap first_range (none_kept (λ r. nat_le index r.last && nat_le r.first max) m
          (each (λ r. (nat_le index r.last && nat_le r.first max) ≡ false) (λ r within. let ends = within.1 in and_left (nat_le index r.last) (nat_le r.first max) (lt-leb index r.last (omega arith))))))
    ]

    none_next : (max : ℕ) → answer m (Next index max) ≡ None
    none_next max = ap first_range (none_kept (λ r. nat_lt index r.first && nat_le r.first max) m
        (each (λ r. (nat_lt index r.first && nat_le r.first max) ≡ false) (λ r within. let begins = within.0 in let ends = within.1 in and_left (nat_lt index r.first) (nat_le r.first max) (le-ltb index r.first (omega arith)))))

    -- where the bound is above the greatest index too, no range ends there
    none_back : (min : ℕ) (p : Range → Bool) → greatest_of kind < min → filter (λ r. p r && nat_le min r.last) m ≡ []
    none_back min p high = none_kept (λ r. p r && nat_le min r.last) m
        (each (λ r. (p r && nat_le min r.last) ≡ false) (λ r within. let ends = within.1 in and_right (p r) (nat_le min r.last) (lt-leb min r.last (omega arith))))

    prev_is : (min : ℕ) → answer m (Prev index min) ≡ answer m (Rfind (greatest_of kind) min)
    prev_is min = elim (cases_Bool (nat_lt (greatest_of kind) min)) [
      | inl high ↦ rw high (ap last_range (none_back min (λ r. nat_lt r.last index) (ltb-true (greatest_of kind) min high)))
      | inr low ↦ rw low (ap last_range (same_kept (λ r. nat_lt r.last index && nat_le min r.last) (λ r. nat_le r.first (greatest_of kind) && nat_le min r.last) m
          (each (λ r. (nat_lt r.last index && nat_le min r.last) ≡ (nat_le r.first (greatest_of kind) && nat_le min r.last))
          (λ r within. let begins = within.0 in let ends = within.1 in
          ap (λ (b : Bool). b && nat_le min r.last) (lt-ltb r.last index (omega arith) ∙ sym (le-leb r.first (greatest_of kind) (omega arith)))))))
    ]

    rfind_is : (min : ℕ) → answer m (Rfind index min) ≡ answer m (Rfind (greatest_of kind) min)
    rfind_is min = elim (cases_Bool (nat_lt (greatest_of kind) min)) [
      | inl high ↦ rw high (elim (cases_Bool (nat_lt index min)) [
        | inl higher ↦ rw higher refl
        | inr not ↦ rw not (ap last_range (none_back min (λ r. nat_le r.first index) (ltb-true (greatest_of kind) min high)))
      ])
      | inr low ↦ let under : min ≤ greatest_of kind = ltb-false (greatest_of kind) min low in
          rw low (rw (le-ltb index min (omega arith)) (ap last_range (same_kept (λ r. nat_le r.first index && nat_le min r.last) (λ r. nat_le r.first (greatest_of kind) && nat_le min r.last) m
          (each (λ r. (nat_le r.first index && nat_le min r.last) ≡ (nat_le r.first (greatest_of kind) && nat_le min r.last))
          (λ r within. let begins = within.0 in let ends = within.1 in
          ap (λ (b : Bool). b && nat_le min r.last) (le-leb r.first index (omega arith) ∙ sym (le-leb r.first (greatest_of kind) (omega arith))))))))
    ]

-- ---- what queries answer there

pub none_holds_above : (kind : Kind) (m : List Range) (index : ℕ) → IsMap kind m → greatest_of kind < index → holding m index ≡ None
none_holds_above kind m index is above = none_holds kind m is index above

pub none_found_above : (kind : Kind) (m : List Range) (index max : ℕ) → IsMap kind m → greatest_of kind < index → answer m (Find index max) ≡ None
none_found_above kind m index max is above = none_found kind m is index above max

pub none_next_above : (kind : Kind) (m : List Range) (index max : ℕ) → IsMap kind m → greatest_of kind < index → answer m (Next index max) ≡ None
none_next_above kind m index max is above = none_next kind m is index above max

pub prev_above : (kind : Kind) (m : List Range) (index min : ℕ) → IsMap kind m → greatest_of kind < index → answer m (Prev index min) ≡ answer m (Rfind (greatest_of kind) min)
prev_above kind m index min is above = prev_is kind m is index above min

pub rfind_above : (kind : Kind) (m : List Range) (index min : ℕ) → IsMap kind m → greatest_of kind < index → answer m (Rfind index min) ≡ answer m (Rfind (greatest_of kind) min)
rfind_above kind m index min is above = rfind_is kind m is index above min
