-- Lists of laws and faults that are empty.
use Rattle.mt_check.proofs.Prelude.{◌≡◌, List, [], ◌∷◌, ◌++◌, Bool, true, false, map, refl, ap, ◌∙◌, Law, unless}

pub append_none : {A : Type 0} (xs ys : List A) → xs ++ ys ≡ [] → (xs ≡ []) × (ys ≡ [])
append_none [] ys none = (refl, none)
append_none (x ∷ xs) ys none = absurd (cc)

pub both_none : {A : Type 0} (xs ys : List A) → xs ≡ [] → ys ≡ [] → xs ++ ys ≡ []
both_none xs ys first rest = ap (λ l. l ++ ys) first ∙ rest

pub map_none : {A B : Type 0} (f : A → B) (xs : List A) → map f xs ≡ [] → xs ≡ []
map_none f [] none = refl
map_none f (x ∷ xs) none = absurd (cc)

pub held : (b : Bool) (law : Law) → unless b law ≡ [] → b ≡ true
held true law none = refl
held false law none = absurd (cc)

pub holds : (b : Bool) (law : Law) → b ≡ true → unless b law ≡ []
holds b law is = rw is refl
