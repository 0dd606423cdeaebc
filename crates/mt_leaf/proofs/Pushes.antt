-- An item pushed behind others: as one with the last of them where both are holes. What is pushed so has the spans of all,
-- joined. Public: edits of items that a caller reads elsewhere are made of these.
use Rattle.mt_leaf.proofs.Prelude.{if◌then◌else◌, ◌≡◌, ◌≢◌, ℕ, suc, ◌+◌, ◌-◌, ◌<◌, ◌≤◌, ◌==◌, ◌&&◌, List, [], ◌∷◌, ◌++◌, true, length, get_or, set, take, drop, fold, refl, sym, ap, ◌∙◌, subst, inl, inr, arith, append-nil, append_assoc, refill, cases_Bool, eq-eqb, eqb-true, drop_all, take_all, length-set, Item, Span, NoGaps, spans_from, BeginsFull, Apart, EndsFull, no_gaps-cons, no_gap_first, no_gaps_behind, after, after-append, spans-append, word_of, join, holes_joined, ends_with_hole, with_joined}
use Rattle.mt_leaf.proofs.Holes.{ends-append, full_no_hole}
use Rattle.mt_leaf.proofs.Joined.{joined_apart}

refill_whole : (xs ys : List Item) → length ys ≡ length xs → refill (length xs) xs ys ≡ ys
refill_whole xs ys same =
    let none : drop (length ys) xs ≡ [] = drop_all (length ys) xs (omega arith) in
    let whole : take (length xs) ys ≡ ys = take_all (length xs) ys (omega arith) in
    rw (none, append-nil ys) whole

hole_grows : (xs : List Item) (y d : Item) → 0 < length xs → word_of xs (length xs - 1) ≡ 0 → y.word ≡ 0
    → set xs (length xs - 1) (record (get_or xs (length xs - 1) d) { last = y.last }) ≡ with_joined xs y
hole_grows [] y d some hole is = absurd (omega arith)
hole_grows (x ∷ []) y d some hole is = rw (eq-eqb x.word 0 hole, eq-eqb y.word 0 is) refl
hole_grows (x ∷ z ∷ xs) y d some hole is =
    let inner : length (x ∷ z ∷ xs) - 1 ≡ suc (length (z ∷ xs) - 1) = omega arith in
    let behind = rw inner at hole in
    rw inner (ap (λ (rest : List Item). x ∷ rest) (hole_grows (z ∷ xs) y d (omega arith) behind is))

-- the last hole, written to
pub hole_written : (xs zs : List Item) (n : ℕ) (y d : Item) → zs ≡ xs → n ≡ length xs → 0 < length xs → word_of xs (length xs - 1) ≡ 0 → y.word ≡ 0
    → refill (length xs) xs (set zs (n - 1) (record (get_or zs (n - 1) d) { last = y.last })) ≡ with_joined xs y
hole_written xs zs n y d same long some hole is =
    let kept = length-set xs (length xs - 1) (record (get_or xs (length xs - 1) d) { last = y.last }) in
    rw (same, long) (refill_whole xs (set xs (length xs - 1) (record (get_or xs (length xs - 1) d) { last = y.last })) kept ∙ hole_grows xs y d some hole is)

-- an item that is not joined
pub pushed : (xs : List Item) (y : Item) → (y.word ≡ 0 → (0 < length xs) × (word_of xs (length xs - 1) ≡ 0) → ⊥) → xs ++ y ∷ [] ≡ with_joined xs y
pushed [] y apart = refl
pushed (x ∷ []) y apart = elim (cases_Bool (x.word == 0)) [
  | inl t ↦ elim (cases_Bool (y.word == 0)) [ inl u ↦ absurd (apart (eqb-true y.word 0 u) (omega arith, eqb-true x.word 0 t)) | inr n ↦ rw (t, n) refl ]
  | inr n ↦ rw n refl
]
pushed (x ∷ z ∷ xs) y apart =
    let inner : length (x ∷ z ∷ xs) - 1 ≡ suc (length (z ∷ xs) - 1) = omega arith in
    let behind = rw inner at apart in
    ap (λ (rest : List Item). x ∷ rest) (pushed (z ∷ xs) y (λ is hole. behind is (omega arith, hole.1)))

-- ---- items pushed one behind the other are their spans joined

-- `with_joined`, of spans
abbrev behind : List Span → Span → List Span
behind [] y = y ∷ []
behind (x ∷ []) y = if (x.word == 0) && (y.word == 0) then record x { last = y.last } ∷ [] else x ∷ y ∷ []
behind (x ∷ z ∷ xs) y = x ∷ behind (z ∷ xs) y

-- the span of an item that begins at `first`
abbrev span_at : ℕ → Item → Span
span_at first x = record { first = first; last = x.last; word = x.word }

spans-with_joined : (lo : ℕ) (xs : List Item) (y : Item) → spans_from lo (with_joined xs y) ≡ behind (spans_from lo xs) (span_at (after lo xs) y)
spans-with_joined lo [] y = refl
spans-with_joined lo (x ∷ []) y = elim (cases_Bool ((x.word == 0) && (y.word == 0))) [ inl t ↦ rw t refl | inr n ↦ rw n refl ]
spans-with_joined lo (x ∷ z ∷ xs) y = ap (λ (l : List Span). span_at lo x ∷ l) (spans-with_joined (x.last + 1) (z ∷ xs) y)

after-with_joined : (lo : ℕ) (xs : List Item) (y : Item) → after lo (with_joined xs y) ≡ y.last + 1
after-with_joined lo [] y = refl
after-with_joined lo (x ∷ []) y = elim (cases_Bool ((x.word == 0) && (y.word == 0))) [ inl t ↦ rw t refl | inr n ↦ rw n refl ]
after-with_joined lo (x ∷ z ∷ xs) y = after-with_joined (x.last + 1) (z ∷ xs) y

-- whether an item is joined in front or another behind comes to the same
join-behind : (x y : Span) (xs : List Span) → 1 ≤ length xs → join x (behind xs y) ≡ behind (join x xs) y
join-behind x y [] some = absurd (omega arith)
join-behind x y (z ∷ []) some = elim (cases_Bool (x.word == 0)) [
  | inl a ↦ elim (cases_Bool (z.word == 0)) [
    | inl b ↦ elim (cases_Bool (y.word == 0)) [ inl c ↦ rw (a, b, c) (rw (a, b) refl) | inr c ↦ rw (a, b, c) (rw (a, b) refl) ]
    | inr b ↦ rw (a, b) (rw (a, b) refl)
  ]
  | inr a ↦ elim (cases_Bool ((z.word == 0) && (y.word == 0))) [ inl b ↦ rw (a, b) (rw a refl) | inr b ↦ rw (a, b) (rw a refl) ]
]
join-behind x y (z ∷ w ∷ xs) some = elim (cases_Bool ((x.word == 0) && (z.word == 0))) [ inl a ↦ rw a refl | inr a ↦ rw a refl ]

some_joined : (x : Span) (xs : List Span) → 1 ≤ length (holes_joined (x ∷ xs))
some_joined x xs = joins (holes_joined xs)
  where
    joins : (ys : List Span) → 1 ≤ length (join x ys)
    joins [] = omega arith
    joins (y ∷ ys) = elim (cases_Bool ((x.word == 0) && (y.word == 0))) [ inl t ↦ rw t (omega arith) | inr n ↦ rw n (omega arith) ]

joined-behind : (xs : List Span) (y : Span) → holes_joined (xs ++ y ∷ []) ≡ behind (holes_joined xs) y
joined-behind [] y = refl
joined-behind (x ∷ []) y = refl
joined-behind (x ∷ z ∷ xs) y = ap (join x) (joined-behind (z ∷ xs) y) ∙ join-behind x y (holes_joined (z ∷ xs)) (some_joined z xs)

pushed_behind : (lo : ℕ) (front made back : List Item) → spans_from lo made ≡ holes_joined (spans_from lo front) → after lo made ≡ after lo front
    → spans_from lo (fold with_joined made back) ≡ holes_joined (spans_from lo (front ++ back))
pushed_behind lo front made [] same ends = same ∙ ap (λ (l : List Item). holes_joined (spans_from lo l)) (sym (append-nil front))
pushed_behind lo front made (y ∷ back) same ends =
    let step : spans_from lo (with_joined made y) ≡ holes_joined (spans_from lo (front ++ y ∷ [])) =
    spans-with_joined lo made y
    ∙ ((λ i. behind (same i) (span_at (ends i) y))
    ∙ (sym (joined-behind (spans_from lo front) (span_at (after lo front) y)) ∙ ap holes_joined (sym (spans-append lo front (y ∷ []))))) in
    let end : after lo (with_joined made y) ≡ after lo (front ++ y ∷ []) = after-with_joined lo made y ∙ sym (after-append lo front (y ∷ [])) in
    pushed_behind lo (front ++ y ∷ []) (with_joined made y) back step end ∙ ap (λ (l : List Item). holes_joined (spans_from lo l)) (append_assoc front (y ∷ []) back)

-- onto the empty run
pub all_pushed : (lo : ℕ) (items : List Item) → spans_from lo (fold with_joined [] items) ≡ holes_joined (spans_from lo items)
all_pushed lo items = pushed_behind lo [] [] items refl refl

-- onto items of which no two holes follow each other
pub pushed_onto : (lo : ℕ) (items more : List Item) → Apart (spans_from lo items) → spans_from lo (fold with_joined items more) ≡ holes_joined (spans_from lo (items ++ more))
pushed_onto lo items more apart = pushed_behind lo items items more (sym (joined_apart (spans_from lo items) apart)) refl

-- ---- where no two holes meet, items are pushed as they are

push_one : (lo : ℕ) (xs : List Item) (y : Item) → (ends_with_hole (spans_from lo xs) ≡ true → y.word ≢ 0) → with_joined xs y ≡ xs ++ y ∷ []
push_one lo [] y meet = refl
push_one lo (x ∷ []) y meet = elim (cases_Bool (x.word == 0)) [
  | inl t ↦ elim (cases_Bool (y.word == 0)) [ inl u ↦ absurd (meet t (eqb-true y.word 0 u)) | inr n ↦ rw (t, n) refl ]
  | inr n ↦ rw n refl
]
push_one lo (x ∷ z ∷ xs) y meet = ap (λ (rest : List Item). x ∷ rest) (push_one (x.last + 1) (z ∷ xs) y meet)

ends_with_pushed : (lo : ℕ) (xs : List Item) (y : Item) → ends_with_hole (spans_from lo (xs ++ y ∷ [])) ≡ true → y.word ≡ 0
ends_with_pushed lo xs y hole =
    eqb-true y.word 0 (sym (ends-append (spans_from lo xs) (span_at (after lo xs) y) []) ∙ subst (λ (l : List Span). ends_with_hole l ≡ true) (spans-append lo xs (y ∷ [])) hole)

pub pushed_as_they_are : (lo begin : ℕ) (xs ys : List Item) → Apart (spans_from begin ys) → (ends_with_hole (spans_from lo xs) ≡ true → BeginsFull (spans_from begin ys)) → fold with_joined xs ys ≡ xs ++ ys
pushed_as_they_are lo begin xs [] apart meet = sym (append-nil xs)
pushed_as_they_are lo begin xs (y ∷ ys) apart meet =
    ap (λ (l : List Item). fold with_joined l ys) (push_one lo xs y meet)
    ∙ (pushed_as_they_are lo (y.last + 1) (xs ++ y ∷ []) ys apart.1 (λ hole. apart.0 (ends_with_pushed lo xs y hole)) ∙ append_assoc xs (y ∷ []) ys)

-- onto the empty run
pub pushed_apart : (min : ℕ) (items : List Item) → Apart (spans_from min items) → fold with_joined [] items ≡ items
pushed_apart min items apart = pushed_as_they_are min min [] items apart (λ e. absurd (cc))

-- onto a run that ends with an entry
pub pushed_behind_entry : (lo begin : ℕ) (xs ys : List Item) → EndsFull (spans_from lo xs) → Apart (spans_from begin ys) → fold with_joined xs ys ≡ xs ++ ys
pushed_behind_entry lo begin xs ys full apart = pushed_as_they_are lo begin xs ys apart (λ hole. absurd (full_no_hole (spans_from lo xs) full hole))

-- from an entry on
pub pushed_from_entry : (lo begin : ℕ) (xs ys : List Item) → BeginsFull (spans_from begin ys) → Apart (spans_from begin ys) → fold with_joined xs ys ≡ xs ++ ys
pushed_from_entry lo begin xs ys full apart = pushed_as_they_are lo begin xs ys apart (λ _. full)

-- ---- items without gaps stay so

pub no_gaps-with_joined : (xs : List Item) (y : Item) → NoGaps xs → y.gap ≡ 0 → NoGaps (with_joined xs y)
no_gaps-with_joined [] y none here = no_gaps-cons y [] here refl
no_gaps-with_joined (x ∷ []) y none here =
    let first = no_gap_first x [] none in
    elim (cases_Bool ((x.word == 0) && (y.word == 0))) [
      | inl t ↦ rw t (no_gaps-cons (record x { last = y.last }) [] first refl)
      | inr n ↦ rw n (no_gaps-cons x (y ∷ []) first (no_gaps-cons y [] here refl))
    ]
no_gaps-with_joined (x ∷ z ∷ xs) y none here =
    no_gaps-cons x (with_joined (z ∷ xs) y) (no_gap_first x (z ∷ xs) none) (no_gaps-with_joined (z ∷ xs) y (no_gaps_behind x (z ∷ xs) none) here)

pub no_gaps-pushed : (xs ys : List Item) → NoGaps xs → NoGaps ys → NoGaps (fold with_joined xs ys)
no_gaps-pushed xs [] front back = front
no_gaps-pushed xs (y ∷ ys) front back = no_gaps-pushed (with_joined xs y) ys (no_gaps-with_joined xs y front (no_gap_first y ys back)) (no_gaps_behind y ys back)
