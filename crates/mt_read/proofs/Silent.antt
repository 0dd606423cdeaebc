-- A leaf of whose ranges none answers.
use Rattle.mt_read.proofs.Prelude.{◌≡◌, ℕ, ◌+◌, ◌≤◌, ◌==◌, Bool, true, false, List, [], ◌∷◌, ◌++◌, Some, None, refl, sym, ap, ◌∙◌, subst, arith, nat_lt, nat_le, if◌then◌else◌, AllByRecursion, flat_map, slice_get, and_left, eq-eqb, le-ltb, lt-leb, flat_map-append, Range, Next, Prev, Rfind, answer, first_range, last_range, all_map, all_join, get_parts, Span, leaf_range, Fills, fills_split, none_filled, Between, leaf_between}
use Rattle.mt_read.proofs.LastAnswers.{prev_test, rfind_all, rfind_test}
use Rattle.mt_read.proofs.MapAnswers.{none_pass}
use Rattle.mt_read.proofs.NextAnswers.{next_test}

abbrev ranges : List Span → List Range
ranges xs = flat_map leaf_range xs

-- of the range of a span, where there is one
of_span : (P : Range → Type 0) (x : Span) → P (record { first = x.first; last = x.last; entry = x.word }) → AllByRecursion P (leaf_range x)
of_span P x is = by_word (x.word == 0)
  where
    by_word : (b : Bool) → AllByRecursion P (if b then [] else record { first = x.first; last = x.last; entry = x.word } ∷ [])
    by_word true = tt
    by_word false = (is, tt)

no_range : (x : Span) → x.word ≡ 0 → leaf_range x ≡ []
no_range x hole = rw (eq-eqb x.word 0 hole) refl

-- nothing begins behind an index of the last span, or behind it
pub none_next : (lo hi i : ℕ) (xs : List Span) (x : Span) (index max : ℕ) → Fills lo hi xs → slice_get xs i ≡ Some x → x.last + 1 ≡ hi → x.first ≤ index → answer (ranges xs) (Next index max) ≡ None
none_next lo hi i xs x index max fills at end from = ap first_range (none_pass (next_test index max) (ranges xs) each)
  where
    Fails : Range → Type 0
    Fails r = next_test index max r ≡ false

    fails : (r : Range) → r.first ≤ index → Fails r
    fails r low = and_left (nat_lt index r.first) (nat_le r.first max) (le-ltb index r.first low)

    each : AllByRecursion Fails (ranges xs)
    each =
        let parts = get_parts xs i x at in
        let split = fills_split lo hi parts.0 x parts.1 (subst (Fills lo hi) parts.2 fills) in
        let none = none_filled (x.last + 1) hi parts.1 split.2 (omega arith) in
        let front = all_map (Between lo x.first) Fails (λ r b. fails r (let order = b.1 in let last = b.2 in omega arith)) (ranges parts.0) (leaf_between lo x.first parts.0 split.0) in
        let back : AllByRecursion Fails (ranges parts.1) = subst (λ (l : List Span). AllByRecursion Fails (ranges l)) (sym none) tt in
        subst (AllByRecursion Fails) (sym (ap ranges parts.2 ∙ flat_map-append leaf_range parts.0 (x ∷ parts.1)))
        (all_join Fails (ranges parts.0) (leaf_range x ++ ranges parts.1) front (all_join Fails (leaf_range x) (ranges parts.1) (of_span Fails x (fails (record { first = x.first; last = x.last; entry = x.word }) from)) back))

-- nothing begins at an index of the first span, which is a hole, or below
pub none_rfind : (lo hi : ℕ) (x : Span) (xs : List Span) (index : ℕ) → Fills lo hi (x ∷ xs) → x.word ≡ 0 → index ≤ x.last → answer (ranges (x ∷ xs)) (Rfind index 0) ≡ None
none_rfind lo hi x xs index fills hole to = rfind_all (ranges (x ∷ xs)) index ∙ ap last_range (none_pass (rfind_test index 0) (ranges (x ∷ xs)) each)
  where
    Fails : Range → Type 0
    Fails r = rfind_test index 0 r ≡ false

    each : AllByRecursion Fails (ranges (x ∷ xs))
    each =
        all_join Fails (leaf_range x) (ranges xs) (subst (AllByRecursion Fails) (sym (no_range x hole)) tt)
        (all_map (Between (x.last + 1) hi) Fails (λ r b. and_left (nat_le r.first index) (nat_le 0 r.last) (lt-leb r.first index (let first = b.0 in omega arith))) (ranges xs) (leaf_between (x.last + 1) hi xs fills.2))

-- nothing ends below an index of the first span
pub none_prev : (lo hi : ℕ) (x : Span) (xs : List Span) (index : ℕ) → Fills lo hi (x ∷ xs) → index ≤ x.last → answer (ranges (x ∷ xs)) (Prev index 0) ≡ None
none_prev lo hi x xs index fills to = ap last_range (none_pass (prev_test index 0) (ranges (x ∷ xs)) each)
  where
    Fails : Range → Type 0
    Fails r = prev_test index 0 r ≡ false

    fails : (r : Range) → index ≤ r.last → Fails r
    fails r high = and_left (nat_lt r.last index) (nat_le 0 r.last) (le-ltb r.last index high)

    each : AllByRecursion Fails (ranges (x ∷ xs))
    each =
        all_join Fails (leaf_range x) (ranges xs) (of_span Fails x (fails (record { first = x.first; last = x.last; entry = x.word }) to))
        (all_map (Between (x.last + 1) hi) Fails (λ r b. fails r (let first = b.0 in let order = b.1 in omega arith)) (ranges xs) (leaf_between (x.last + 1) hi xs fills.2))

-- nor below an index of the second span, where the first is a hole
pub none_prev_hole : (lo hi : ℕ) (x y : Span) (xs : List Span) (index : ℕ) → Fills lo hi (x ∷ y ∷ xs) → x.word ≡ 0 → index ≤ y.last → answer (ranges (x ∷ y ∷ xs)) (Prev index 0) ≡ None
none_prev_hole lo hi x y xs index fills hole to =
    ap (λ (l : List Range). answer (l ++ ranges (y ∷ xs)) (Prev index 0)) (no_range x hole) ∙ none_prev (x.last + 1) hi y xs index fills.2 to

-- ---- the first spans

pub first_of : (xs : List Span) (x : Span) → slice_get xs 0 ≡ Some x → (ys : List Span) × (xs ≡ x ∷ ys)
first_of [] x at = let clash : None ≡ Some x = at in absurd cc
first_of (z ∷ xs) x at = let same : Some z ≡ Some x = at in (xs, (let one : z ≡ x = cc in ap (λ (y : Span). y ∷ xs) one))

pub first_two_of : (xs : List Span) (x y : Span) → slice_get xs 0 ≡ Some x → slice_get xs 1 ≡ Some y → (ys : List Span) × (xs ≡ x ∷ y ∷ ys)
first_two_of [] x y at next = let clash : None ≡ Some x = at in absurd cc
first_two_of (z ∷ xs) x y at next =
    let rest = first_of xs y next in let same : Some z ≡ Some x = at in
    (rest.0, (let one : z ≡ x = cc in λ i. one i ∷ rest.1 i))
