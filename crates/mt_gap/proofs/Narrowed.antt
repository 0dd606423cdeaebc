-- A search that goes into narrowed rows alone has the answer of all rows, and goes into two rows of a level at the most.
use Rattle.mt_gap.proofs.Prelude.{◌≡◌, ℕ, ◌+◌, ◌<◌, ◌≤◌, ◌&&◌, ◌⊎◌, List, [], ◌∷◌, ◌++◌, Bool, true, false, nat_le, length, refl, sym, ap, ◌∙◌, inl, inr, ⊎_elim, arith, AllByRecursion, cases_Bool, leb-true, leb-false, Span, Fills, Table, spans_in, expand, Levels, Tree, IsRow, Filled, levels_front, levels_back, Hole, kept, lowest_in, Child, meets, may_have, inside, narrow}
use Rattle.mt_gap.proofs.HolesBelow.{holes_below}
use Rattle.mt_gap.proofs.ChildLists.{spans, GapIs}
use Rattle.mt_gap.proofs.Kept.{kept-append, holes_below-append, Between, holes_between, longest_of, longest_is, none_short, none_below, none_above, some_inside}

-- the spans rise, each behind the last index of the one before
abbrev pub Rising : ℕ → List Span → Type 0
Rising lo [] = Unit {0}
Rising lo (x ∷ xs) = (lo ≤ x.first) × (x.first ≤ x.last) × Rising (x.last + 1) xs

-- ---- rising spans

pub rising_more : (a a' : ℕ) (xs : List Span) → a ≤ a' → Rising a' xs → Rising a xs
rising_more a a' [] le rising = tt
rising_more a a' (x ∷ xs) le rising = let begins = rising.0 in (omega arith, rising.1, rising.2)

pub rising_narrow : (n lo hi a : ℕ) (xs : List Child) → Rising a (spans xs) → Rising a (spans (narrow n lo hi xs))
rising_narrow n lo hi a [] rising = tt
rising_narrow n lo hi a (x ∷ xs) rising =
    let begins = rising.0 in let order = rising.1 in
    let behind = rising_narrow n lo hi (x.span.last + 1) xs rising.2 in
    elim (cases_Bool (may_have n lo hi x)) [
      | inl may ↦ rw may (elim (cases_Bool (inside lo hi x)) [ inl in_it ↦ rw in_it (rising.0, rising.1, tt) | inr over ↦ rw over (rising.0, rising.1, behind) ])
      | inr not ↦ rw not (rising_more a (x.span.last + 1) (spans (narrow n lo hi xs)) (omega arith) behind)
    ]

rising_join : (a b : ℕ) (xs ys : List Span) → Fills a b xs → Rising b ys → Rising a (xs ++ ys)
rising_join a b [] ys fills rising = rising_more a b ys (omega (arith, fills)) rising
rising_join a b (x ∷ xs) ys fills rising = let begins = fills.0 in let ends = fills.1 in (omega arith, omega arith, rising_join (x.last + 1) b xs ys fills.2 rising)

pub rising_expand : (t : Table) (a : ℕ) (xs : List Span) → AllByRecursion (Filled t) xs → Rising a xs → Rising a (expand t xs)
rising_expand t a [] rows rising = tt
rising_expand t a (x ∷ xs) rows rising =
    rising_more a x.first (expand t (x ∷ xs)) rising.0 (rising_join x.first (x.last + 1) (spans_in t x) (expand t xs) rows.0 (rising_expand t (x.last + 1) xs rows.1 rising.2))

-- ---- how many rows

and_true : (a b : Bool) → a && b ≡ true → (a ≡ true) × (b ≡ true)
and_true true true both = (refl, refl)
and_true true false both = absurd (cc)
and_true false true both = absurd (cc)
and_true false false both = absurd (cc)

and_false : (a b : Bool) → a && b ≡ false → (a ≡ false) ⊎ (b ≡ false)
and_false true true both = absurd (cc)
and_false true false both = inr refl
and_false false true both = inl refl
and_false false false both = inl refl

-- of a span that may have room
pub record May (n lo hi : ℕ) (x : Child) : Type 0 where
  pub long : n ≤ x.gap
  pub from : x.span.first ≤ hi
  pub to : lo ≤ x.span.last

pub may_is : (n lo hi : ℕ) (x : Child) → may_have n lo hi x ≡ true → May n lo hi x
may_is n lo hi x may =
    let parts = and_true (nat_le n x.gap) (meets lo hi x.span) may in
    let window = and_true (nat_le x.span.first hi) (nat_le lo x.span.last) parts.1 in
    record { long = leb-true n x.gap parts.0; from = leb-true x.span.first hi window.0; to = leb-true lo x.span.last window.1 }

pub may_not : (n lo hi : ℕ) (x : Child) → may_have n lo hi x ≡ false → (x.gap < n) ⊎ ((hi < x.span.first) ⊎ (x.span.last < lo))
may_not n lo hi x not = elim (and_false (nat_le n x.gap) (meets lo hi x.span) not) [
  | inl short ↦ inl (leb-false n x.gap short)
  | inr out ↦ inr (elim (and_false (nat_le x.span.first hi) (nat_le lo x.span.last) out) [
    | inl above ↦ inl (leb-false x.span.first hi above)
    | inr below ↦ inr (leb-false lo x.span.last below)
  ])
]

pub in_is : (lo hi : ℕ) (x : Child) → inside lo hi x ≡ true → (lo ≤ x.span.first) × (x.span.last ≤ hi)
in_is lo hi x in_it = let parts = and_true (nat_le lo x.span.first) (nat_le x.span.last hi) in_it in (leb-true lo x.span.first parts.0, leb-true x.span.last hi parts.1)

pub in_not : (lo hi : ℕ) (x : Child) → inside lo hi x ≡ false → (x.span.first < lo) ⊎ (hi < x.span.last)
in_not lo hi x over = elim (and_false (nat_le lo x.span.first) (nat_le x.span.last hi) over) [
  | inl below ↦ inl (leb-false lo x.span.first below)
  | inr above ↦ inr (leb-false x.span.last hi above)
]

-- behind the window there is none
narrow_behind : (n lo hi a : ℕ) (xs : List Child) → Rising a (spans xs) → hi < a → length (narrow n lo hi xs) ≡ 0
narrow_behind n lo hi a [] rising past = refl
narrow_behind n lo hi a (x ∷ xs) rising past =
    let begins = rising.0 in let order = rising.1 in
    elim (cases_Bool (may_have n lo hi x)) [
      | inl may ↦ absurd (let from = (may_is n lo hi x may).from in omega arith)
      | inr not ↦ rw not (narrow_behind n lo hi (x.span.last + 1) xs rising.2 (omega arith))
    ]

-- from the window's first index on there is one: the first that lies in the window, or the one that holds its last index
narrow_one : (n lo hi a : ℕ) (xs : List Child) → Rising a (spans xs) → lo ≤ a → length (narrow n lo hi xs) ≤ 1
narrow_one n lo hi a [] rising from = omega arith
narrow_one n lo hi a (x ∷ xs) rising from =
    let begins = rising.0 in let order = rising.1 in
    elim (cases_Bool (may_have n lo hi x)) [
      | inl may ↦ rw may (elim (cases_Bool (inside lo hi x)) [
        | inl in_it ↦ rw in_it (omega arith)
        | inr over ↦ rw over (⊎_elim
            (λ (below : x.span.first < lo). absurd (omega arith))
            (λ (above : hi < x.span.last). (let none = narrow_behind n lo hi (x.span.last + 1) xs rising.2 (omega arith) in omega arith))
            (in_not lo hi x over))
      ])
      | inr not ↦ rw not (narrow_one n lo hi (x.span.last + 1) xs rising.2 (omega arith))
    ]

-- and before them the one that holds its first index
pub narrow_two : (n lo hi a : ℕ) (xs : List Child) → Rising a (spans xs) → length (narrow n lo hi xs) ≤ 2
narrow_two n lo hi a [] rising = omega arith
narrow_two n lo hi a (x ∷ xs) rising =
    let begins = rising.0 in let order = rising.1 in
    elim (cases_Bool (may_have n lo hi x)) [
      | inl may ↦ rw may (elim (cases_Bool (inside lo hi x)) [
        | inl in_it ↦ rw in_it (omega arith)
        | inr over ↦ rw over (
            let to = (may_is n lo hi x may).to in
            let one = narrow_one n lo hi (x.span.last + 1) xs rising.2 (omega arith) in omega arith)
      ])
      | inr not ↦ rw not (narrow_two n lo hi (x.span.last + 1) xs rising.2)
    ]

-- ---- the answer

lowest_behind : (xs ys zs : List Hole) → lowest_in ys ≡ lowest_in zs → lowest_in (xs ++ ys) ≡ lowest_in (xs ++ zs)
lowest_behind [] ys zs same = same
lowest_behind (x ∷ xs) ys zs same = refl

lowest_front : (xs ys : List Hole) → 0 < length xs → lowest_in (xs ++ ys) ≡ lowest_in xs
lowest_front [] ys some = absurd (omega arith)
lowest_front (x ∷ xs) ys some = refl

module _ (t : Tree) (n lo hi : ℕ) (some : 1 ≤ n) where
  abbrev pub kept_below : ℕ → List Span → List Hole
  kept_below h xs = kept n lo hi (holes_below t.table h xs)

  pub kept_cons : (h : ℕ) (x : Span) (xs : List Span) → kept_below h (x ∷ xs) ≡ kept_below h (x ∷ []) ++ kept_below h xs
  kept_cons h x xs = ap (kept n lo hi) (holes_below-append t.table h (x ∷ []) xs) ∙ kept-append n lo hi (holes_below t.table h (x ∷ [])) (holes_below t.table h xs)

  module _ (h : ℕ) (x : Child) (row : Levels (IsRow t) t.table h (x.span ∷ [])) (order : x.span.first ≤ x.span.last) (gap : GapIs t.table h x) where
    lie : AllByRecursion (Between x.span.first (x.span.last + 1)) (holes_below t.table h (x.span ∷ []))
    lie = holes_between t h x.span.first (x.span.last + 1) (x.span ∷ []) row (refl, order, refl)

    size : x.gap ≡ longest_of (holes_below t.table h (x.span ∷ []))
    size = gap ∙ longest_is t.table h (x.span ∷ [])

    -- a row that is passed over has nothing
    pub passed : may_have n lo hi x ≡ false → kept_below h (x.span ∷ []) ≡ []
    passed not = elim (may_not n lo hi x not) [
      | inl short ↦ none_short n lo hi (holes_below t.table h (x.span ∷ [])) some (omega (arith, size))
      | inr out ↦ elim out [
        | inl above ↦ none_above n lo hi x.span.first (x.span.last + 1) (holes_below t.table h (x.span ∷ [])) some lie above
        | inr below ↦ none_below n lo hi x.span.first (x.span.last + 1) (holes_below t.table h (x.span ∷ [])) some lie (omega arith)
      ]
    ]

    -- a row in the window whose gap word suffices answers
    pub answers : may_have n lo hi x ≡ true → inside lo hi x ≡ true → 0 < length (kept_below h (x.span ∷ []))
    answers may in_it =
        let window = in_is lo hi x in_it in
        some_inside n lo hi x.span.first (x.span.last + 1) (holes_below t.table h (x.span ∷ [])) some lie window.0 (let to = window.1 in omega arith) (let long = (may_is n lo hi x may).long in omega (arith, size))

  pub narrow_keeps : (h a : ℕ) (xs : List Child) → Levels (IsRow t) t.table h (spans xs) → Rising a (spans xs) → AllByRecursion (GapIs t.table h) xs
      → lowest_in (kept_below h (spans (narrow n lo hi xs))) ≡ lowest_in (kept_below h (spans xs))
  narrow_keeps h a [] rows rising gaps = refl
  narrow_keeps h a (x ∷ xs) rows rising gaps =
      let here = levels_front (IsRow t) t.table h (x.span ∷ []) (spans xs) rows in
      let behind = narrow_keeps h (x.span.last + 1) xs (levels_back (IsRow t) t.table h (x.span ∷ []) (spans xs) rows) rising.2 gaps.1 in
      elim (cases_Bool (may_have n lo hi x)) [
        | inl may ↦ rw may (elim (cases_Bool (inside lo hi x)) [
          | inl in_it ↦ rw in_it (sym (ap lowest_in (kept_cons h x.span (spans xs)) ∙ lowest_front (kept_below h (x.span ∷ [])) (kept_below h (spans xs)) (answers h x here rising.1 gaps.0 may in_it)))
          | inr over ↦ rw over (
              ap lowest_in (kept_cons h x.span (spans (narrow n lo hi xs)))
              ∙ (lowest_behind (kept_below h (x.span ∷ [])) (kept_below h (spans (narrow n lo hi xs))) (kept_below h (spans xs)) behind
              ∙ ap lowest_in (sym (kept_cons h x.span (spans xs)))))
        ])
        | inr not ↦ rw not (behind ∙ ap lowest_in (sym (kept_cons h x.span (spans xs) ∙ ap (λ (l : List Hole). l ++ kept_below h (spans xs)) (passed h x here rising.1 gaps.0 not))))
      ]
