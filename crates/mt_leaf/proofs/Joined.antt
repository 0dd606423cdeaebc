-- Spans with the holes that follow each other joined: they stand for the same ranges, and no two holes meet.
use Rattle.mt_leaf.proofs.Prelude.{◌≡◌, ℕ, ◌+◌, ◌≤◌, ◌==◌, ◌&&◌, List, [], ◌∷◌, ◌++◌, length, refl, sym, ap, ◌∙◌, inl, inr, arith, flat_map, cases_Bool, eqb-false, eqb-true, Range, Span, leaf_range, Fills, BeginsFull, Apart, join, holes_joined}

ranges_join : (x : Span) (xs : List Span) → flat_map leaf_range (join x xs) ≡ leaf_range x ++ flat_map leaf_range xs
ranges_join x [] = refl
ranges_join x (y ∷ ys) = elim (cases_Bool (x.word == 0)) [
  | inl z ↦ elim (cases_Bool (y.word == 0)) [ inl t ↦ rw (z, t) (rw z refl) | inr f ↦ rw (z, f) (rw (z, f) refl) ]
  | inr n ↦ rw n (rw n refl)
]

pub ranges_joined : (xs : List Span) → flat_map leaf_range (holes_joined xs) ≡ flat_map leaf_range xs
ranges_joined [] = refl
ranges_joined (x ∷ xs) = ranges_join x (holes_joined xs) ∙ ap (λ (l : List Range). leaf_range x ++ l) (ranges_joined xs)

fills_join : (lo hi : ℕ) (x : Span) (xs : List Span) → Fills lo hi (x ∷ xs) → Fills lo hi (join x xs)
fills_join lo hi x [] fills = fills
fills_join lo hi x (y ∷ ys) fills = elim (cases_Bool ((x.word == 0) && (y.word == 0))) [
  | inl t ↦ let low = fills.1 in let next = fills.2.0 in let high = fills.2.1 in rw t (fills.0, omega arith, fills.2.2)
  | inr n ↦ rw n fills
]

pub fills_joined : (lo hi : ℕ) (xs : List Span) → Fills lo hi xs → Fills lo hi (holes_joined xs)
fills_joined lo hi [] fills = fills
fills_joined lo hi (x ∷ xs) fills = fills_join lo hi x (holes_joined xs) (fills.0, fills.1, fills_joined (x.last + 1) hi xs fills.2)

apart_join : (x : Span) (xs : List Span) → Apart xs → Apart (join x xs)
apart_join x [] apart = (λ _. tt, tt)
apart_join x (y ∷ ys) apart = elim (cases_Bool (x.word == 0)) [
  | inl z ↦ elim (cases_Bool (y.word == 0)) [
    | inl t ↦ rw (z, t) ((λ _. apart.0 (eqb-true y.word 0 t)), apart.1)
    | inr f ↦ rw (z, f) ((λ _. eqb-false y.word 0 f), apart)
  ]
  | inr n ↦ rw n ((λ e. absurd (eqb-false x.word 0 n e)), apart)
]

pub apart_joined : (xs : List Span) → Apart (holes_joined xs)
apart_joined [] = tt
apart_joined (x ∷ xs) = apart_join x (holes_joined xs) (apart_joined xs)

-- ---- how many

length_join : (x : Span) (xs : List Span) → length (join x xs) ≤ length xs + 1
length_join x [] = omega arith
length_join x (y ∷ ys) = elim (cases_Bool ((x.word == 0) && (y.word == 0))) [ inl t ↦ rw t (omega arith) | inr n ↦ rw n (omega arith) ]

pub length_joined : (xs : List Span) → length (holes_joined xs) ≤ length xs
length_joined [] = omega arith
length_joined (x ∷ xs) = let one = length_join x (holes_joined xs) in let rest = length_joined xs in omega arith

-- two spans that are not both holes stay two
pub join_apart : (x : Span) (xs : List Span) → (x.word ≡ 0 → BeginsFull xs) → join x xs ≡ x ∷ xs
join_apart x [] full = refl
join_apart x (y ∷ ys) full = elim (cases_Bool (x.word == 0)) [
  | inl z ↦ elim (cases_Bool (y.word == 0)) [ inl t ↦ absurd (full (eqb-true x.word 0 z) (eqb-true y.word 0 t)) | inr f ↦ rw (z, f) refl ]
  | inr n ↦ rw n refl
]

pub joined_apart : (xs : List Span) → Apart xs → holes_joined xs ≡ xs
joined_apart [] apart = refl
joined_apart (x ∷ xs) apart = ap (join x) (joined_apart xs apart.1) ∙ join_apart x xs apart.0

-- lists without holes next to each other, joined: what they begin with is as it was, and at most one span is gone
record Joins (x : Span) (xs ys : List Span) : Type 0 where
  first : Span
  rest : List Span
  is : holes_joined ((x ∷ xs) ++ ys) ≡ first ∷ rest
  word : first.word ≡ x.word
  count : length (x ∷ xs) + length ys ≤ length (first ∷ rest) + 1

joins : (x : Span) (xs ys : List Span) → Apart (x ∷ xs) → Apart ys → Joins x xs ys
joins x [] [] left right = record { first = x; rest = []; is = refl; word = refl; count = omega arith }
joins x [] (y ∷ ys) left right = elim (cases_Bool ((x.word == 0) && (y.word == 0))) [
  | inl t ↦ record { first = record x { last = y.last }; rest = ys; is = ap (join x) (joined_apart (y ∷ ys) right) ∙ rw t refl; word = refl; count = omega arith }
  | inr n ↦ record { first = x; rest = y ∷ ys; is = ap (join x) (joined_apart (y ∷ ys) right) ∙ rw n refl; word = refl; count = omega arith }
]
joins x (z ∷ xs) ys left right =
    let behind = joins z xs ys left.1 right in
    let count = behind.count in
    record {
      first = x;
      rest = behind.first ∷ behind.rest;
      is = ap (join x) behind.is ∙ join_apart x (behind.first ∷ behind.rest) (λ hole w. left.0 hole (sym behind.word ∙ w));
      word = refl;
      count = omega arith;
    }

pub length_joins : (xs ys : List Span) → Apart xs → Apart ys → length xs + length ys ≤ length (holes_joined (xs ++ ys)) + 1
length_joins [] ys left right = rw (joined_apart ys right) (omega arith)
length_joins (x ∷ xs) ys left right = let all = joins x xs ys left right in rw all.is all.count
