-- Of each one, and of each two, of a list, and of a list one of whose places is set.
use Rattle.mt_linearize.proofs.Prelude.{◌≡◌, List, [], ◌∷◌, ◌++◌, Some, arith, AllByRecursion, AllPairs, All-from_recursion, AllPairs-cons, all_join, Pairs}

pub same_some : {X : Type 0} (x y : X) → Some x ≡ Some y → x ≡ y
same_some x y e = cc

pub every : {X : Type 0} (P Q : X → Type 0) (xs : List X) → ((x : X) → P x → Q x) → AllByRecursion P xs → AllByRecursion Q xs
every P Q [] f h = tt
every P Q (x ∷ xs) f h = (f x h.0, every P Q xs f h.1)

pub every_of : {X : Type 0} (P : X → Type 0) → ((x : X) → P x) → (xs : List X) → AllByRecursion P xs
every_of P f [] = tt
every_of P f (x ∷ xs) = (f x, every_of P f xs)

pub both : {X : Type 0} (P Q : X → Type 0) (xs : List X) → AllByRecursion P xs → AllByRecursion Q xs → AllByRecursion (λ (x : X). P x × Q x) xs
both P Q [] h k = tt
both P Q (x ∷ xs) h k = ((h.0, k.0), both P Q xs h.1 k.1)

pub pairs_with : {X : Type 0} (P : X → Type 0) (R S : X → X → Type 0) → ((x y : X) → P x → P y → R x y → S x y) → (xs : List X) → AllByRecursion P xs → Pairs R xs → Pairs S xs
pairs_with P R S f [] h k = tt
pairs_with {X} P R S f (x ∷ xs) h k = (
  every (λ (y : X). P y × R x y) (S x) xs (λ y b. f x y h.0 b.0 b.1) (both P (R x) xs h.1 k.0),
  pairs_with P R S f xs h.1 k.1,
)

pub pairs_append : {X : Type 0} (R : X → X → Type 0) (xs ys : List X) → Pairs R xs → Pairs R ys → AllByRecursion (λ (x : X). AllByRecursion (R x) ys) xs → Pairs R (xs ++ ys)
pairs_append R [] ys h k across = k
pairs_append R (x ∷ xs) ys h k across = (all_join (R x) xs ys h.0 across.0, pairs_append R xs ys h.1 k across.1)

pub pairs_all : {X : Type 0} (R : X → X → Type 0) (xs : List X) → Pairs R xs → AllPairs R xs
pairs_all R [] h = λ i j d l m. absurd (omega arith)
pairs_all R (x ∷ xs) h = AllPairs-cons R x xs (All-from_recursion (R x) xs h.0) (pairs_all R xs h.1)
