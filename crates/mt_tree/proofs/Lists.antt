-- Elements of lists, and what an optional value is.
use Rattle.mt_tree.proofs.Prelude.{◌≡◌, ◌≢◌, ◌⊎◌, ℕ, zero, suc, List, [], ◌∷◌, Option, Some, None, set, ap, inl, inr, ⊎_elim, arith, refl, slice_get, option_map, unwrap_or}

pub no_some : {A : Type 0} (a : A) → None ≡ Some a → ⊥
no_some a e = absurd (cc)

pub some_same : {A : Type 0} (a b : A) → Some a ≡ Some b → a ≡ b
some_same a b e = ap (λ x. unwrap_or x a) e

pub get_set : {A : Type 0} (l : List A) (i j : ℕ) (a b : A) → slice_get (set l i a) j ≡ Some b → ((j ≡ i) × (a ≡ b)) ⊎ ((j ≢ i) × (slice_get l j ≡ Some b))
get_set [] i j a b e = absurd (no_some b e)
get_set (x ∷ xs) zero zero a b e = inl (refl, some_same a b e)
get_set (x ∷ xs) zero (suc j) a b e = inr ((λ h. omega arith), e)
get_set (x ∷ xs) (suc i) zero a b e = inr ((λ h. omega arith), e)
get_set (x ∷ xs) (suc i) (suc j) a b e = ⊎_elim (λ t. inl (ap suc t.0, t.1)) (λ t. let n = t.0 in inr ((λ h. n (omega arith)), t.1)) (get_set xs i j a b e)

pub from_map : {A B : Type 0} (f : A → B) (o : Option A) (b : B) → option_map f o ≡ Some b → (a : A) × ((o ≡ Some a) × (f a ≡ b))
from_map f None b is = absurd (no_some b is)
from_map f (Some a) b is = (a, (refl, some_same (f a) b is))
