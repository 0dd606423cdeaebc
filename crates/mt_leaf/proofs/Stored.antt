-- A store on spans: what they stand for, what they fill, and how many they are.
use Rattle.mt_leaf.proofs.Prelude.{◌≡◌, ℕ, ◌+◌, ◌-◌, ◌<◌, ◌≤◌, ◌==◌, List, [], ◌∷◌, ◌++◌, length, min, max, nat_lt, refl, sym, ap, ◌∙◌, subst, inl, inr, arith, length-append, flat_map, flat_map-append, cases_Bool, ltb-true, ltb-false, lt-ltb, le-ltb, over, parts_below, parts_above, cut_below, cut_above, Range, Span, leaf_range, Fills, span_below, span_above, spans_below, spans_above, span_stored, stored, edited, starting, fills-append, fills_le}
use Rattle.mt_leaf.proofs.Joined.{ranges_joined, fills_joined, length_joined}

-- ---- the ranges

abbrev range_of : Span → Range
range_of x = record { first = x.first; last = x.last; entry = x.word }

ranges_below : (xs : List Span) (first : ℕ) → flat_map leaf_range (spans_below xs first) ≡ parts_below (flat_map leaf_range xs) first
ranges_below [] first = refl
ranges_below (x ∷ xs) first = elim (cases_Bool (nat_lt x.first first)) [
  | inl t ↦ elim (cases_Bool (x.word == 0)) [ inl z ↦ rw (t, z) (ranges_below xs first) | inr n ↦ rw (t, n) (rw t (ap (λ (l : List Range). cut_below first (range_of x) ∷ l) (ranges_below xs first))) ]
  | inr f ↦ elim (cases_Bool (x.word == 0)) [ inl z ↦ rw (f, z) (ranges_below xs first) | inr n ↦ rw (f, n) (rw f (ranges_below xs first)) ]
]

ranges_above : (xs : List Span) (last : ℕ) → flat_map leaf_range (spans_above xs last) ≡ parts_above (flat_map leaf_range xs) last
ranges_above [] last = refl
ranges_above (x ∷ xs) last = elim (cases_Bool (nat_lt last x.last)) [
  | inl t ↦ elim (cases_Bool (x.word == 0)) [ inl z ↦ rw (t, z) (ranges_above xs last) | inr n ↦ rw (t, n) (rw t (ap (λ (l : List Range). cut_above last (range_of x) ∷ l) (ranges_above xs last))) ]
  | inr f ↦ elim (cases_Bool (x.word == 0)) [ inl z ↦ rw (f, z) (ranges_above xs last) | inr n ↦ rw (f, n) (rw f (ranges_above xs last)) ]
]

ranges_stored : (xs : List Span) (first last entry : ℕ) → flat_map leaf_range (stored xs first last entry) ≡ over (flat_map leaf_range xs) first last entry
ranges_stored xs first last entry =
    flat_map-append leaf_range (spans_below xs first) (span_stored first last entry ∷ spans_above xs last)
    ∙ rw (ranges_below xs first, ranges_above xs last) refl

pub ranges_edited : (xs : List Span) (first last entry : ℕ) → flat_map leaf_range (edited xs first last entry) ≡ over (flat_map leaf_range xs) first last entry
ranges_edited xs first last entry = ranges_joined (stored xs first last entry) ∙ ranges_stored xs first last entry

-- ---- what they fill

-- nothing begins below `lo`
pub none_below : (lo hi first : ℕ) (xs : List Span) → Fills lo hi xs → first ≤ lo → spans_below xs first ≡ []
none_below lo hi first [] fills h = refl
none_below lo hi first (x ∷ xs) fills h =
    let begins = fills.0 in let low = fills.1 in
    rw (le-ltb x.first first (omega arith)) (none_below (x.last + 1) hi first xs fills.2 (omega arith))

pub none_above : (lo hi last : ℕ) (xs : List Span) → Fills lo hi xs → hi ≤ last + 1 → spans_above xs last ≡ []
none_above lo hi last [] fills h = refl
none_above lo hi last (x ∷ xs) fills h =
    let ends = fills_le (x.last + 1) hi xs fills.2 in
    rw (le-ltb last x.last (omega arith)) (none_above (x.last + 1) hi last xs fills.2 h)

fills_below : (lo hi first : ℕ) (xs : List Span) → Fills lo hi xs → lo ≤ first → first < hi → Fills lo first (spans_below xs first)
fills_below lo hi first [] fills h k = absurd (omega arith)
fills_below lo hi first (x ∷ xs) fills h k = elim (cases_Bool (nat_lt x.first first)) [
  | inl t ↦
      let low : x.first < first = ltb-true x.first first t in
      let begins = fills.0 in let reaches = fills.1 in
      rw t (begins, omega arith, rest low (λ s. fills_below (x.last + 1) hi first xs fills.2 s k))
  | inr n ↦
      let high : first ≤ x.first = ltb-false x.first first n in
      let begins = fills.0 in let reaches = fills.1 in
      rw (n, none_below (x.last + 1) hi first xs fills.2 (omega arith)) (omega arith)
]
  where
    rest : x.first < first → (x.last + 1 ≤ first → Fills (x.last + 1) first (spans_below xs first)) → Fills (min x.last (first - 1) + 1) first (spans_below xs first)
    rest low more = elim (cases_Bool (nat_lt x.last (first - 1))) [
      | inl t ↦ let s : x.last < first - 1 = ltb-true x.last (first - 1) t in let e : min x.last (first - 1) ≡ x.last = omega arith in rw e (more (omega arith))
      | inr n ↦ let s : first - 1 ≤ x.last = ltb-false x.last (first - 1) n in let e : min x.last (first - 1) + 1 ≡ first = omega arith in rw (e, none_below (x.last + 1) hi first xs fills.2 (omega arith)) refl
    ]

-- all that begins above `last` stays
pub all_above : (lo hi last : ℕ) (xs : List Span) → Fills lo hi xs → last < lo → spans_above xs last ≡ xs
all_above lo hi last [] fills h = refl
all_above lo hi last (x ∷ xs) fills h =
    let begins = fills.0 in let reaches = fills.1 in
    let e : max x.first (last + 1) ≡ x.first = omega arith in
    rw (lt-ltb last x.last (omega arith), e) (ap (λ (l : List Span). x ∷ l) (all_above (x.last + 1) hi last xs fills.2 (omega arith)))

fills_above : (lo hi last : ℕ) (xs : List Span) → Fills lo hi xs → lo ≤ last + 1 → last < hi → Fills (last + 1) hi (spans_above xs last)
fills_above lo hi last [] fills h k = let e : lo ≡ hi = fills in omega arith
fills_above lo hi last (x ∷ xs) fills h k = elim (cases_Bool (nat_lt last x.last)) [
  | inl t ↦
      let high : last < x.last = ltb-true last x.last t in
      let begins = fills.0 in let reaches = fills.1 in
      rw t (omega arith, omega arith, subst (λ (l : List Span). Fills (x.last + 1) hi l) (sym (all_above (x.last + 1) hi last xs fills.2 (omega arith))) fills.2)
  | inr n ↦
      let low : x.last ≤ last = ltb-false last x.last n in
      rw n (fills_above (x.last + 1) hi last xs fills.2 (omega arith) k)
]

pub fills_stored : (lo hi first last entry : ℕ) (xs : List Span) → Fills lo hi xs → lo ≤ first → first ≤ last → last < hi → Fills lo hi (stored xs first last entry)
fills_stored lo hi first last entry xs fills h k l =
    fills-append lo first hi (spans_below xs first) (span_stored first last entry ∷ spans_above xs last) (fills_below lo hi first xs fills h (omega arith))
    (refl, k, fills_above lo hi last xs fills (omega arith) l)

pub fills_edited : (lo hi first last entry : ℕ) (xs : List Span) → Fills lo hi xs → lo ≤ first → first ≤ last → last < hi → Fills lo hi (edited xs first last entry)
fills_edited lo hi first last entry xs fills h k l = fills_joined lo hi (stored xs first last entry) (fills_stored lo hi first last entry xs fills h k l)

-- ---- how many

pub length_above : (xs : List Span) (last : ℕ) → length (spans_above xs last) ≤ length xs
length_above [] last = omega arith
length_above (x ∷ xs) last = elim (cases_Bool (nat_lt last x.last)) [ inl t ↦ let k = length_above xs last in rw t (omega (arith, k)) | inr n ↦ let k = length_above xs last in rw n (omega (arith, k)) ]

-- at most one span is cut in two
length_parts : (lo hi first last : ℕ) (xs : List Span) → Fills lo hi xs → first ≤ last → length (spans_below xs first) + length (spans_above xs last) ≤ length xs + 1
length_parts lo hi first last [] fills h = omega arith
length_parts lo hi first last (x ∷ xs) fills h = elim (cases_Bool (nat_lt x.first first)) [
  | inl t ↦ elim (cases_Bool (nat_lt last x.last)) [
    | inl u ↦
        let s : last < x.last = ltb-true last x.last u in
        let none = ap length (none_below (x.last + 1) hi first xs fills.2 (omega arith)) in
        let k = length_above xs last in
        rw (t, u) (omega (arith, none, k))
    | inr n ↦ let k = length_parts (x.last + 1) hi first last xs fills.2 h in rw (t, n) (omega (arith, k))
  ]
  | inr n ↦ elim (cases_Bool (nat_lt last x.last)) [
    | inl u ↦ let k = length_parts (x.last + 1) hi first last xs fills.2 h in rw (n, u) (omega (arith, k))
    | inr m ↦ let k = length_parts (x.last + 1) hi first last xs fills.2 h in rw (n, m) (omega (arith, k))
  ]
]

pub length_edited : (lo hi first last entry : ℕ) (xs : List Span) → Fills lo hi xs → first ≤ last → length (edited xs first last entry) ≤ length xs + 2
length_edited lo hi first last entry xs fills h =
    let fewer = length_joined (stored xs first last entry) in
    let both = length-append (spans_below xs first) (span_stored first last entry ∷ spans_above xs last) in
    let parts = length_parts lo hi first last xs fills h in
    omega arith

-- ---- what stands between two leaves does not count

pub below-append : (first : ℕ) (xs ys : List Span) → spans_below (xs ++ ys) first ≡ spans_below xs first ++ spans_below ys first
below-append first [] ys = refl
below-append first (x ∷ xs) ys = elim (cases_Bool (nat_lt x.first first)) [
  | inl t ↦ rw t (ap (λ (l : List Span). span_below first x ∷ l) (below-append first xs ys))
  | inr n ↦ rw n (below-append first xs ys)
]

pub above-append : (last : ℕ) (xs ys : List Span) → spans_above (xs ++ ys) last ≡ spans_above xs last ++ spans_above ys last
above-append last [] ys = refl
above-append last (x ∷ xs) ys = elim (cases_Bool (nat_lt last x.last)) [
  | inl t ↦ rw t (ap (λ (l : List Span). span_above last x ∷ l) (above-append last xs ys))
  | inr n ↦ rw n (above-append last xs ys)
]

pub above-starting : (middle behind hi last : ℕ) (xs : List Span) → Fills behind hi xs → middle ≤ behind → behind ≤ last → spans_above (starting middle xs) last ≡ spans_above xs last
above-starting middle behind hi last [] fills h k = refl
above-starting middle behind hi last (x ∷ xs) fills h k =
    let begins = fills.0 in
    let e : max middle (last + 1) ≡ max x.first (last + 1) = omega arith in
    elim (cases_Bool (nat_lt last x.last)) [ inl t ↦ rw (t, e) refl | inr u ↦ rw u refl ]

pub fills_starting : (middle behind hi : ℕ) (xs : List Span) → Fills behind hi xs → middle ≤ behind → behind < hi → Fills middle hi (starting middle xs)
fills_starting middle behind hi [] fills h k = absurd (omega arith)
fills_starting middle behind hi (x ∷ xs) fills h k = let reaches = fills.1 in (refl, omega arith, fills.2)

pub stored_between : (lo middle behind hi first last entry : ℕ) (left between right : List Span) → Fills lo middle left → Fills middle behind between → Fills behind hi right → first < middle → behind ≤ last → last < hi
    → stored (left ++ starting middle right) first last entry ≡ stored (left ++ (between ++ right)) first last entry
stored_between lo middle behind hi first last entry left between right f g h begins ends inside =
    let order = fills_le middle behind between g in
    let both = fills-append middle behind hi between right g h in
    let below₁ = below-append first left (starting middle right) ∙ ap (λ (l : List Span). spans_below left first ++ l) (none_below middle hi first (starting middle right) (fills_starting middle behind hi right h order (omega arith)) (omega arith)) in
    let below₂ = below-append first left (between ++ right) ∙ ap (λ (l : List Span). spans_below left first ++ l) (none_below middle hi first (between ++ right) both (omega arith)) in
    let none = none_above lo middle last left f (omega arith) in
    let above₁ = above-append last left (starting middle right) ∙ (λ i. none i ++ above-starting middle behind hi last right h order ends i) in
    let above₂ = above-append last left (between ++ right) ∙ ((λ i. none i ++ above-append last between right i) ∙ ap (λ (l : List Span). l ++ spans_above right last) (none_above middle behind last between g (omega arith))) in
    λ i. (below₁ ∙ sym below₂) i ++ (span_stored first last entry ∷ (above₁ ∙ sym above₂) i)
