-- What a map answers, by what it has over a few indexes: a range of just these, or none.
use Rattle.mt_read.proofs.Prelude.{◌≡◌, ◌≢◌, ◌⊎◌, ℕ, ◌+◌, ◌<◌, ◌≤◌, ◌&&◌, ◌==◌, Bool, true, false, List, [], ◌∷◌, ◌++◌, Option, Some, None, arith, nat_lt, nat_le, refl, sym, ap, ◌∙◌, subst, inl, inr, filter, if◌then◌else◌, AllByRecursion, cases_Bool, cases_lt, and_left, and_right, ltb-true, leb-false, lt-ltb, le-ltb, lt-leb, le-leb, eq-eqb, ne_eqb, Range, Kind, Load, Find, answer, IsMap, IsMapFrom, holds, holding, first_range, greatest_of, none_found_above, all_map, all_front, all_back, all_join, Span, leaf_range, IsPart, within}

-- ---- the ranges of a map beside some indexes

abbrev pub Ordered : ℕ → Range → Type 0
Ordered top r = (r.first ≤ r.last) × (r.last ≤ top)

pub ordered : (low top : ℕ) (m : List Range) → IsMapFrom low m → AllByRecursion (λ (r : Range). r.last ≤ top) m → AllByRecursion (Ordered top) m
ordered low top [] rise ends = tt
ordered low top (r ∷ m) rise ends = ((rise.1, ends.0), ordered (r.last + 1) top m rise.3 ends.1)

-- the range lies below the indexes `a` to `b`, or above them, or is of just these
abbrev pub Beside : ℕ → ℕ → ℕ → Range → Type 0
Beside top a b r = Ordered top r × ((r.last < a) ⊎ ((b < r.first) ⊎ ((r.first ≡ a) × (r.last ≡ b))))

abbrev pub Outside : ℕ → ℕ → ℕ → Range → Type 0
Outside top a b r = Ordered top r × ((r.last < a) ⊎ (b < r.first))

both : (P Q R : Range → Type 0) → ((r : Range) → P r → Q r → R r) → (m : List Range) → AllByRecursion P m → AllByRecursion Q m → AllByRecursion R m
both P Q R f [] ps qs = tt
both P Q R f (r ∷ m) ps qs = (f r ps.0 qs.0, both P Q R f m ps.1 qs.1)

module _ (kind : Kind) (m : List Range) (map : IsMap kind m) where
  abbrev top : ℕ
  top = greatest_of kind

  pub in_order : AllByRecursion (Ordered top) m
  in_order = ordered 0 top m map.rise map.within

  -- of a hole
  pub outside : (a b : ℕ) → IsPart m a b [] → AllByRecursion (Outside top a b) m
  outside a b part =
      let all = subst (AllByRecursion (Ordered top)) part.joined in_order in
      subst (AllByRecursion (Outside top a b)) (sym part.joined) (all_join (Outside top a b) part.front part.back
      (both (Ordered top) (λ (r : Range). r.last < a) (Outside top a b) (λ r o below. (o, inl below)) part.front (all_front (Ordered top) part.front part.back all) part.below)
      (both (Ordered top) (λ (r : Range). b < r.first) (Outside top a b) (λ r o above. (o, inr above)) part.back (all_back (Ordered top) part.front part.back all) part.above))

  beside_hole : (a b : ℕ) → IsPart m a b [] → AllByRecursion (Beside top a b) m
  beside_hole a b part = all_map (Outside top a b) (Beside top a b) (λ r out. (out.0, widen r out.1)) m (outside a b part)
    where
      widen : (r : Range) → (r.last < a) ⊎ (b < r.first) → (r.last < a) ⊎ ((b < r.first) ⊎ ((r.first ≡ a) × (r.last ≡ b)))
      widen r (inl below) = inl below
      widen r (inr above) = inr (inl above)

  -- of a range
  beside_range : (x : Range) → IsPart m x.first x.last (x ∷ []) → AllByRecursion (Beside top x.first x.last) m
  beside_range x part =
      let Q : Range → Type 0 = Beside top x.first x.last in
      let all = subst (AllByRecursion (Ordered top)) part.joined in_order in
      let behind = all_back (Ordered top) part.front (x ∷ part.back) all in
      subst (AllByRecursion Q) (sym part.joined) (all_join Q part.front (x ∷ part.back)
      (both (Ordered top) (λ (r : Range). r.last < x.first) Q (λ r o below. (o, inl below)) part.front (all_front (Ordered top) part.front (x ∷ part.back) all) part.below) (
        (behind.0, inr (inr (refl, refl))),
        both (Ordered top) (λ (r : Range). x.last < r.first) Q (λ r o above. (o, inr (inl above))) part.back behind.1 part.above,
      ))

  -- of what stands in a slot
  pub beside : (x : Span) → IsPart m x.first x.last (leaf_range x) → AllByRecursion (Beside top x.first x.last) m
  beside x part = by_word (x.word == 0) part
    where
      by_word : (b : Bool) → IsPart m x.first x.last (if b then [] else record { first = x.first; last = x.last; entry = x.word } ∷ []) → AllByRecursion (Beside top x.first x.last) m
      by_word true part = beside_hole x.first x.last part
      by_word false part = beside_range (record { first = x.first; last = x.last; entry = x.word }) part

  -- what stands in a slot is a range
  pub range_part : (x : Span) → x.word ≢ 0 → IsPart m x.first x.last (leaf_range x) → IsPart m x.first x.last (record { first = x.first; last = x.last; entry = x.word } ∷ [])
  range_part x entry part = rw (ne_eqb x.word 0 entry) at part

  -- or a hole
  pub hole_part : (x : Span) → x.word ≡ 0 → IsPart m x.first x.last (leaf_range x) → IsPart m x.first x.last []
  hole_part x hole part = rw (eq-eqb x.word 0 hole) at part

-- ---- tests that agree

pub same_test : (b c : Bool) → (b ≡ true → c ≡ true) → (c ≡ true → b ≡ true) → b ≡ c
same_test true c f g = sym (f refl)
same_test false true f g = g refl
same_test false false f g = refl

pub same_filter : (p q : Range → Bool) (m : List Range) → AllByRecursion (λ (r : Range). p r ≡ q r) m → filter p m ≡ filter q m
same_filter p q [] each = refl
same_filter p q (r ∷ m) each = elim (cases_Bool (q r)) [
  | inl passes ↦ rw (each.0 ∙ passes, passes) (ap (λ (l : List Range). r ∷ l) (same_filter p q m each.1))
  | inr fails ↦ rw (each.0 ∙ fails, fails) (same_filter p q m each.1)
]

pub none_pass : (p : Range → Bool) (m : List Range) → AllByRecursion (λ (r : Range). p r ≡ false) m → filter p m ≡ []
none_pass p [] each = refl
none_pass p (r ∷ m) each = rw each.0 (none_pass p m each.1)

pub skip : (p : Range → Bool) (front back : List Range) → AllByRecursion (λ (r : Range). p r ≡ false) front → filter p (front ++ back) ≡ filter p back
skip p [] back each = refl
skip p (r ∷ front) back each = rw each.0 (skip p front back each.1)

-- ---- the range that holds an index

holding_none : (top a b index : ℕ) (m : List Range) → a ≤ index → index ≤ b → AllByRecursion (Outside top a b) m → holding m index ≡ None
holding_none top a b index [] from to each = refl
holding_none top a b index (r ∷ m) from to each = rw (holds_not r each.0) (holding_none top a b index m from to each.1)
  where
    holds_not : (r : Range) → Outside top a b r → holds index r ≡ false
    holds_not r (o, inl below) = and_right (nat_le r.first index) (nat_le index r.last) (lt-leb index r.last (omega arith))
    holds_not r (o, inr above) = and_left (nat_le r.first index) (nat_le index r.last) (lt-leb r.first index (omega arith))

holding_behind : (x : Range) (index : ℕ) (front back : List Range) → x.first ≤ index → index ≤ x.last → AllByRecursion (λ (r : Range). r.last < x.first) front → holding (front ++ (x ∷ back)) index ≡ Some x
holding_behind x index [] back from to below = rw (le-leb x.first index from, le-leb index x.last to) refl
holding_behind x index (r ∷ front) back from to below =
    let low = below.0 in
    rw (and_right (nat_le r.first index) (nat_le index r.last) (lt-leb index r.last (omega arith))) (holding_behind x index front back from to below.1)

pub load_hole : (kind : Kind) (m : List Range) (a b index : ℕ) → IsMap kind m → IsPart m a b [] → a ≤ index → index ≤ b → None ≡ answer m (Load index)
load_hole kind m a b index map part from to = sym (holding_none (greatest_of kind) a b index m from to (outside kind m map a b part))

pub load_range : (m : List Range) (x : Range) (index : ℕ) → IsPart m x.first x.last (x ∷ []) → x.first ≤ index → index ≤ x.last → Some x ≡ answer m (Load index)
load_range m x index part from to = sym (ap (λ (l : List Range). holding l index) part.joined ∙ holding_behind x index part.front part.back from to part.below)

-- ---- the first range that ends at an index or above

abbrev pub find_test : ℕ → ℕ → Range → Bool
find_test index max r = nat_le index r.last && nat_le r.first max

module _ (kind : Kind) (m : List Range) (map : IsMap kind m) (index : ℕ) where
  abbrev end : ℕ
  end = greatest_of kind

  pub find_is : (i : ℕ) → i ≤ end → answer m (Find i end) ≡ first_range (filter (find_test i end) m)
  find_is i low = rw (le-ltb end i low) refl

  pub find_range : (x : Range) → IsPart m x.first x.last (x ∷ []) → x.first ≤ index → index ≤ x.last → Some x ≡ answer m (Find index end)
  find_range x part from to =
      let all = all_back (Ordered end) part.front (x ∷ part.back) (subst (AllByRecursion (Ordered end)) part.joined (in_order kind m map)) in
      let ends = all.0.1 in
      let first : filter (find_test index end) (x ∷ part.back) ≡ x ∷ filter (find_test index end) part.back = rw (le-leb index x.last to, le-leb x.first end (omega arith)) refl in
      sym (find_is index (omega arith) ∙ ap first_range (ap (filter (find_test index end)) part.joined
      ∙ (skip (find_test index end) part.front (x ∷ part.back)
      (all_map (λ (r : Range). r.last < x.first) (λ (r : Range). find_test index end r ≡ false) (λ r below. and_left (nat_le index r.last) (nat_le r.first end) (lt-leb index r.last (omega arith))) part.front part.below)
      ∙ first)))

  pub find_none : (a : ℕ) → IsPart m a end [] → a ≤ index → index ≤ end → None ≡ answer m (Find index end)
  find_none a part from to =
      let none = none_pass (find_test index end) m (all_map (Outside end a end) (λ (r : Range). find_test index end r ≡ false) fails m (outside kind m map a end part)) in
      sym (find_is index to ∙ ap first_range none)
    where
      fails : (r : Range) → Outside end a end r → find_test index end r ≡ false
      fails r ((order, low), inl below) = and_left (nat_le index r.last) (nat_le r.first end) (lt-leb index r.last (omega arith))
      fails r ((order, low), inr above) = absurd (omega arith)

  pub find_hole : (a b : ℕ) → IsPart m a b [] → a ≤ index → index ≤ b → b < end → answer m (Find (b + 1) end) ≡ answer m (Find index end)
  find_hole a b part from to low =
      let same = same_filter (find_test index end) (find_test (b + 1) end) m (all_map (Outside end a b) (λ (r : Range). find_test index end r ≡ find_test (b + 1) end r) agree m (outside kind m map a b part)) in
      find_is (b + 1) (omega arith) ∙ (ap first_range (sym same) ∙ sym (find_is index (omega arith)))
    where
      agree : (r : Range) → Outside end a b r → find_test index end r ≡ find_test (b + 1) end r
      agree r (o, inl below) =
          let order = o.0 in
          ap (λ (t : Bool). t && nat_le r.first end) (lt-leb index r.last (omega arith) ∙ sym (lt-leb (b + 1) r.last (omega arith)))
      agree r (o, inr above) =
          let order = o.0 in
          ap (λ (t : Bool). t && nat_le r.first end) (le-leb index r.last (omega arith) ∙ sym (le-leb (b + 1) r.last (omega arith)))

-- ---- a bound

all_above : (index max : ℕ) (low : ℕ) (m : List Range) → max < low → IsMapFrom low m → filter (find_test index max) m ≡ []
all_above index max low [] above rise = refl
all_above index max low (r ∷ m) above rise =
    let begins = rise.0 in let order = rise.1 in
    rw (and_right (nat_le index r.last) (nat_le r.first max) (lt-leb r.first max (omega arith))) (all_above index max (r.last + 1) m (omega arith) rise.3)

bounded : (index max low end : ℕ) (m : List Range) → index ≤ max → IsMapFrom low m → AllByRecursion (λ (r : Range). r.last ≤ end) m
    → within index max (first_range (filter (find_test index end) m)) ≡ first_range (filter (find_test index max) m)
bounded index max low end [] le rise ends = refl
bounded index max low end (r ∷ m) le rise ends = elim (cases_Bool (nat_le index r.last)) [
  | inr fails ↦ rw fails (bounded index max (r.last + 1) end m le rise.3 ends.1)
  | inl passes ↦
      (let order = rise.1 in let stops = ends.0 in
      let here : nat_le r.first end ≡ true = le-leb r.first end (omega arith) in
      elim (cases_Bool (nat_le r.first max)) [
        | inl low ↦ rw (passes, here, low, le-leb index max le) refl
        | inr high ↦ (let above = leb-false r.first max high in rw (passes, here, high, le-leb index max le) (sym (ap first_range (all_above index max (r.last + 1) m (omega arith) rise.3))))
      ])
]

nothing_within : (index max : ℕ) (o : Option Range) → max < index → within index max o ≡ None
nothing_within index max None above = refl
nothing_within index max (Some r) above = rw (lt-leb index max above) refl

low_within : (kind : Kind) (m : List Range) (index max : ℕ) → IsMap kind m → index ≤ greatest_of kind → within index max (answer m (Find index (greatest_of kind))) ≡ answer m (Find index max)
low_within kind m index max map low = elim (cases_Bool (nat_lt max index)) [
  | inl above ↦ (let lt = ltb-true max index above in nothing_within index max (answer m (Find index (greatest_of kind))) lt ∙ rw above refl)
  | inr upto ↦ elim (cases_lt max index) [
    | inl lt ↦ (let clash : true ≡ false = sym (lt-ltb max index lt) ∙ upto in absurd cc)
    | inr le ↦ ap (within index max) (find_is kind m map index index low) ∙ (bounded index max 0 (greatest_of kind) m le map.rise map.within ∙ rw upto refl)
  ]
]

pub find_within : (kind : Kind) (m : List Range) (index max : ℕ) → IsMap kind m → within index max (answer m (Find index (greatest_of kind))) ≡ answer m (Find index max)
find_within kind m index max map = elim (cases_lt (greatest_of kind) index) [
  | inl above ↦ ap (within index max) (none_found_above kind m index (greatest_of kind) map above) ∙ sym (none_found_above kind m index max map above)
  | inr low ↦ low_within kind m index max map low
]
