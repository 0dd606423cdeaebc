-- One place of a list is set: what stands there, and what stands elsewhere.
use Rattle.mt_log.proofs.Prelude.{◌≡◌, ℕ, List, [], ◌∷◌, Some, slice_get, refl, ap, ◌≢◌, zero, suc, slice_set}

pub set_here : {X : Type 0} (xs : List X) (i : ℕ) (x y : X) → slice_get xs i ≡ Some x → slice_get (slice_set xs i y) i ≡ Some y
set_here [] i x y is = absurd (cc)
set_here (z ∷ xs) zero x y is = refl
set_here (z ∷ xs) (suc i) x y is = set_here xs i x y is

pub set_there : {X : Type 0} (xs : List X) (i j : ℕ) (y : X) → j ≢ i → slice_get (slice_set xs i y) j ≡ slice_get xs j
set_there [] i j y apart = refl
set_there (z ∷ xs) zero zero y apart = absurd (apart refl)
set_there (z ∷ xs) zero (suc j) y apart = refl
set_there (z ∷ xs) (suc i) zero y apart = refl
set_there (z ∷ xs) (suc i) (suc j) y apart = set_there xs i j y (λ same. apart (ap suc same))
