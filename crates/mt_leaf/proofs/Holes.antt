-- Whether spans end with a hole, also where they are joined. For the proofs of the crates above, too.
use Rattle.mt_leaf.proofs.Prelude.{◌≡◌, ◌≢◌, ◌≤◌, ◌==◌, ◌&&◌, List, [], ◌∷◌, ◌++◌, true, false, length, refl, ◌∙◌, inl, inr, arith, cases_Bool, eqb-true, eqb-false, Span, EndsFull, join, holes_joined, ends_with_hole}

-- ---- what spans end with

ends_join : (x : Span) (xs : List Span) → ends_with_hole (join x xs) ≡ ends_with_hole (x ∷ xs)
ends_join x [] = refl
ends_join x (y ∷ []) = elim (cases_Bool (x.word == 0)) [
  | inl z ↦ elim (cases_Bool (y.word == 0)) [ inl t ↦ rw (z, t) (rw z refl) | inr f ↦ rw (z, f) (rw f refl) ]
  | inr n ↦ rw n refl
]
ends_join x (y ∷ w ∷ ys) = elim (cases_Bool ((x.word == 0) && (y.word == 0))) [ inl t ↦ rw t refl | inr n ↦ rw n refl ]

ends_behind : (x : Span) (xs : List Span) → 1 ≤ length xs → ends_with_hole (x ∷ xs) ≡ ends_with_hole xs
ends_behind x [] some = absurd (omega arith)
ends_behind x (y ∷ ys) some = refl

pub some_join : (x : Span) (xs : List Span) → 1 ≤ length (join x xs)
some_join x [] = omega arith
some_join x (y ∷ ys) = elim (cases_Bool ((x.word == 0) && (y.word == 0))) [ inl t ↦ rw t (omega arith) | inr n ↦ rw n (omega arith) ]

pub ends_joined : (xs : List Span) → ends_with_hole (holes_joined xs) ≡ ends_with_hole xs
ends_joined [] = refl
ends_joined (x ∷ []) = refl
ends_joined (x ∷ y ∷ ys) = ends_join x (holes_joined (y ∷ ys)) ∙ (ends_behind x (holes_joined (y ∷ ys)) (some_join y (holes_joined ys)) ∙ ends_joined (y ∷ ys))

pub ends-append : (xs : List Span) (y : Span) (ys : List Span) → ends_with_hole (xs ++ (y ∷ ys)) ≡ ends_with_hole (y ∷ ys)
ends-append [] y ys = refl
ends-append (x ∷ []) y ys = refl
ends-append (x ∷ z ∷ xs) y ys = ends-append (z ∷ xs) y ys

pub full_no_hole : (xs : List Span) → EndsFull xs → ends_with_hole xs ≢ true
full_no_hole [] full = λ e. absurd (cc)
full_no_hole (x ∷ []) full = λ e. full (eqb-true x.word 0 e)
full_no_hole (x ∷ y ∷ ys) full = full_no_hole (y ∷ ys) full

pub full_unless_hole : (xs : List Span) → ends_with_hole xs ≡ false → EndsFull xs
full_unless_hole [] full = tt
full_unless_hole (x ∷ []) full = eqb-false x.word 0 full
full_unless_hole (x ∷ y ∷ ys) full = full_unless_hole (y ∷ ys) full

pub no_hole_ends : (xs : List Span) → EndsFull xs → ends_with_hole xs ≡ false
no_hole_ends [] full = refl
no_hole_ends (x ∷ []) full = elim (cases_Bool (x.word == 0)) [ inl is ↦ absurd (full (eqb-true x.word 0 is)) | inr not ↦ not ]
no_hole_ends (x ∷ y ∷ ys) full = no_hole_ends (y ∷ ys) full
