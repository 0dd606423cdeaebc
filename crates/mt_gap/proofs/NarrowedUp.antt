-- The search for the highest place.
use Rattle.mt_gap.proofs.Prelude.{◌≡◌, ℕ, suc, ◌+◌, ◌-◌, ◌<◌, ◌≤◌, List, [], ◌∷◌, ◌++◌, length, refl, sym, ap, ◌∙◌, subst, inl, inr, ⊎_elim, arith, append_assoc, append-nil, AllByRecursion, slice_get, option_map, cases_Bool, Hole, kept, highest_in, Span, Table, Levels, Tree, IsRow, levels_join, levels_front, levels_back, Child, may_have, inside, narrow_up}
use Rattle.mt_gap.proofs.HolesBelow.{holes_below}
use Rattle.mt_gap.proofs.ChildLists.{spans, GapIs, spans-append}
use Rattle.mt_gap.proofs.Narrowed.{Rising, may_is, in_not, rising_more, kept_below, kept_cons, passed, answers}
use Rattle.mt_gap.proofs.Kept.{kept-append, holes_below-append}

-- ---- the last of joined lists

pub highest_more : (n : ℕ) (x : Hole) (ys : List Hole) → 0 < length ys → highest_in n (x ∷ ys) ≡ highest_in n ys
highest_more n x [] some = absurd (omega arith)
highest_more n x (y ∷ ys) some =
    let at : suc (suc (length ys)) - 1 ≡ suc (suc (length ys) - 1) = omega arith in
    ap (λ (k : ℕ). option_map (λ (z : Hole). z.last + 1 - n) (slice_get (x ∷ y ∷ ys) k)) at

pub highest_back : (n : ℕ) (xs ys : List Hole) → 0 < length ys → highest_in n (xs ++ ys) ≡ highest_in n ys
highest_back n [] ys some = refl
highest_back n (x ∷ xs) ys some = highest_more n x (xs ++ ys) (long xs ys some) ∙ highest_back n xs ys some
  where
    long : (xs ys : List Hole) → 0 < length ys → 0 < length (xs ++ ys)
    long [] ys some = some
    long (x ∷ xs) ys some = omega arith

longer : (xs ys : List Hole) → 0 < length xs → 0 < length (xs ++ ys)
longer [] ys some = absurd (omega arith)
longer (x ∷ xs) ys some = omega arith

-- ---- rising spans

rising_back : (a : ℕ) (xs ys : List Span) → Rising a (xs ++ ys) → Rising a ys
rising_back a [] ys rising = rising
rising_back a (x ∷ xs) ys rising = let begins = rising.0 in let order = rising.1 in rising_more a (x.last + 1) ys (omega arith) (rising_back (x.last + 1) xs ys rising.2)

rising_less : (a : ℕ) (xs : List Span) (y : Span) (ys : List Span) → Rising a (xs ++ (y ∷ ys)) → Rising a (xs ++ ys)
rising_less a [] y ys rising = rising_back a (y ∷ []) ys rising
rising_less a (x ∷ xs) y ys rising = (rising.0, rising.1, rising_less (x.last + 1) xs y ys rising.2)

-- one child more at the end
spans_push : (acc : List Child) (x : Child) → spans (acc ++ (x ∷ [])) ≡ spans acc ++ (x.span ∷ [])
spans_push acc x = spans-append acc (x ∷ [])

module _ (n lo hi : ℕ) where
  pub rising_up : (a : ℕ) (acc xs : List Child) → Rising a (spans acc ++ spans xs) → Rising a (spans (narrow_up n lo hi acc xs))
  rising_up a acc [] rising = subst (Rising a) (append-nil (spans acc)) rising
  rising_up a acc (x ∷ xs) rising = elim (cases_Bool (may_have n lo hi x)) [
    | inl may ↦ elim (cases_Bool (inside lo hi x)) [
      | inl in_it ↦ rw (may, in_it) (rising_up a (x ∷ []) xs (rising_back a (spans acc) (x.span ∷ spans xs) rising))
      | inr over ↦ rw (may, over) (rising_up a (acc ++ (x ∷ [])) xs (subst (Rising a) (sym (ap (λ (l : List Span). l ++ spans xs) (spans_push acc x) ∙ append_assoc (spans acc) (x.span ∷ []) (spans xs))) rising))
    ]
    | inr not ↦ rw not (rising_up a acc xs (rising_less a (spans acc) x.span (spans xs) rising))
  ]

  -- ---- how many rows

  up_behind : (a : ℕ) (acc xs : List Child) → Rising a (spans xs) → hi < a → narrow_up n lo hi acc xs ≡ acc
  up_behind a acc [] rising past = refl
  up_behind a acc (x ∷ xs) rising past =
      let begins = rising.0 in let order = rising.1 in
      elim (cases_Bool (may_have n lo hi x)) [
        | inl may ↦ absurd (let from = (may_is n lo hi x may).from in omega arith)
        | inr not ↦ rw not (up_behind (x.span.last + 1) acc xs rising.2 (omega arith))
      ]

  length_one : (acc : List Child) (x : Child) → length (acc ++ (x ∷ [])) ≡ length acc + 1
  length_one [] x = refl
  length_one (y ∷ acc) x = let behind = length_one acc x in omega arith

  up_one : (a : ℕ) (acc xs : List Child) → Rising a (spans xs) → lo ≤ a → length acc ≤ 1 → length (narrow_up n lo hi acc xs) ≤ 2
  up_one a acc [] rising from few = omega arith
  up_one a acc (x ∷ xs) rising from few =
      let begins = rising.0 in let order = rising.1 in
      elim (cases_Bool (may_have n lo hi x)) [
        | inl may ↦ elim (cases_Bool (inside lo hi x)) [
          | inl in_it ↦ rw (may, in_it) (up_one (x.span.last + 1) (x ∷ []) xs rising.2 (omega arith) (omega arith))
          | inr over ↦ rw (may, over) (⊎_elim
              (λ (below : x.span.first < lo). absurd (omega arith))
              (λ (above : hi < x.span.last). (
              let same = up_behind (x.span.last + 1) (acc ++ (x ∷ [])) xs rising.2 (omega arith) in
              let long = length_one acc x in subst (λ (l : List Child). length l ≤ 2) (sym same) (omega arith)))
              (in_not lo hi x over))
        ]
        | inr not ↦ rw not (up_one (x.span.last + 1) acc xs rising.2 (omega arith) few)
      ]

  pub up_two : (a : ℕ) (xs : List Child) → Rising a (spans xs) → length (narrow_up n lo hi [] xs) ≤ 2
  up_two a [] rising = omega arith
  up_two a (x ∷ xs) rising =
      let begins = rising.0 in let order = rising.1 in
      elim (cases_Bool (may_have n lo hi x)) [
        | inl may ↦ let to = (may_is n lo hi x may).to in elim (cases_Bool (inside lo hi x)) [
          | inl in_it ↦ rw (may, in_it) (up_one (x.span.last + 1) (x ∷ []) xs rising.2 (omega arith) (omega arith))
          | inr over ↦ rw (may, over) (up_one (x.span.last + 1) (x ∷ []) xs rising.2 (omega arith) (omega arith))
        ]
        | inr not ↦ rw not (up_two (x.span.last + 1) xs rising.2)
      ]

  pub levels_up : (P : ℕ → Span → Type 0) (t : Table) (h : ℕ) (acc xs : List Child) → Levels P t h (spans acc) → Levels P t h (spans xs) → Levels P t h (spans (narrow_up n lo hi acc xs))
  levels_up P t h acc [] before rows = before
  levels_up P t h acc (x ∷ xs) before rows =
      let here = levels_front P t h (x.span ∷ []) (spans xs) rows in
      let rest = levels_back P t h (x.span ∷ []) (spans xs) rows in
      elim (cases_Bool (may_have n lo hi x)) [
        | inl may ↦ elim (cases_Bool (inside lo hi x)) [
          | inl in_it ↦ rw (may, in_it) (levels_up P t h (x ∷ []) xs here rest)
          | inr over ↦ rw (may, over) (levels_up P t h (acc ++ (x ∷ [])) xs (subst (Levels P t h) (sym (spans_push acc x)) (levels_join P t h (spans acc) (x.span ∷ []) before here)) rest)
        ]
        | inr not ↦ rw not (levels_up P t h acc xs before rest)
      ]

-- ---- the answer

module _ (t : Tree) (n lo hi : ℕ) (some : 1 ≤ n) where
  kept_joined : (h : ℕ) (xs ys : List Span) → kept_below t n lo hi some h (xs ++ ys) ≡ kept_below t n lo hi some h xs ++ kept_below t n lo hi some h ys
  kept_joined h xs ys = ap (kept n lo hi) (holes_below-append t.table h xs ys) ∙ kept-append n lo hi (holes_below t.table h xs) (holes_below t.table h ys)

  pub up_keeps : (h a : ℕ) (acc xs : List Child) → Levels (IsRow t) t.table h (spans xs) → Rising a (spans xs) → AllByRecursion (GapIs t.table h) xs
      → highest_in n (kept_below t n lo hi some h (spans (narrow_up n lo hi acc xs))) ≡ highest_in n (kept_below t n lo hi some h (spans acc ++ spans xs))
  up_keeps h a acc [] rows rising gaps = ap (λ (l : List Span). highest_in n (kept_below t n lo hi some h l)) (sym (append-nil (spans acc)))
  up_keeps h a acc (x ∷ xs) rows rising gaps =
      let here = levels_front (IsRow t) t.table h (x.span ∷ []) (spans xs) rows in
      let rest = levels_back (IsRow t) t.table h (x.span ∷ []) (spans xs) rows in
      let k = kept_below t n lo hi some h in
      elim (cases_Bool (may_have n lo hi x)) [
        | inl may ↦ elim (cases_Bool (inside lo hi x)) [
          | inl in_it ↦ rw (may, in_it) (
              up_keeps h (x.span.last + 1) (x ∷ []) xs rest rising.2 gaps.1
              ∙ sym (ap (highest_in n) (kept_joined h (spans acc) (x.span ∷ spans xs))
              ∙ highest_back n (k (spans acc)) (k (x.span ∷ spans xs))
              (subst (λ (l : List Hole). 0 < length l) (sym (kept_cons t n lo hi some h x.span (spans xs))) (longer (k (x.span ∷ [])) (k (spans xs)) (answers t n lo hi some h x here rising.1 gaps.0 may in_it)))))
          | inr over ↦ rw (may, over) (
              up_keeps h (x.span.last + 1) (acc ++ (x ∷ [])) xs rest rising.2 gaps.1
              ∙ ap (λ (l : List Span). highest_in n (k l)) (ap (λ (l : List Span). l ++ spans xs) (spans_push acc x) ∙ append_assoc (spans acc) (x.span ∷ []) (spans xs)))
        ]
        | inr not ↦ rw not (
            up_keeps h (x.span.last + 1) acc xs rest rising.2 gaps.1
            ∙ ap (highest_in n) (kept_joined h (spans acc) (spans xs)
            ∙ (ap (λ (l : List Hole). k (spans acc) ++ l) (sym (kept_cons t n lo hi some h x.span (spans xs) ∙ ap (λ (l : List Hole). l ++ k (spans xs)) (passed t n lo hi some h x here rising.1 gaps.0 not)))
            ∙ sym (kept_joined h (spans acc) (x.span ∷ spans xs)))))
      ]
