-- What holds of each item of lists that are joined, and what stands around one item. For the proofs of the crates above.
use Rattle.mt_base.proofs.Prelude.{◌≡◌, ℕ, zero, suc, ◌≤◌, List, [], ◌∷◌, ◌++◌, Some, length, inl, inr, refl, ap, arith, ◌⊎◌, AllByRecursion, slice_get}

pub none_or_some : (n : ℕ) → (n ≡ 0) ⊎ (1 ≤ n)
none_or_some zero = inl refl
none_or_some (suc n) = inr (omega arith)

-- ---- each item

pub all_map : {A : Type 0} (P Q : A → Type 0) → ((x : A) → P x → Q x) → (xs : List A) → AllByRecursion P xs → AllByRecursion Q xs
all_map P Q f [] each = tt
all_map P Q f (x ∷ xs) each = (f x each.0, all_map P Q f xs each.1)

pub all_front : {A : Type 0} (P : A → Type 0) (xs ys : List A) → AllByRecursion P (xs ++ ys) → AllByRecursion P xs
all_front P [] ys each = tt
all_front P (x ∷ xs) ys each = (each.0, all_front P xs ys each.1)

pub all_back : {A : Type 0} (P : A → Type 0) (xs ys : List A) → AllByRecursion P (xs ++ ys) → AllByRecursion P ys
all_back P [] ys each = each
all_back P (x ∷ xs) ys each = all_back P xs ys each.1

pub all_join : {A : Type 0} (P : A → Type 0) (xs ys : List A) → AllByRecursion P xs → AllByRecursion P ys → AllByRecursion P (xs ++ ys)
all_join P [] ys front back = back
all_join P (x ∷ xs) ys front back = (front.0, all_join P xs ys front.1 back)

-- ---- around one item

pub get_parts : {A : Type 0} (xs : List A) (i : ℕ) (x : A) → slice_get xs i ≡ Some x → (front : List A) × (back : List A) × (xs ≡ front ++ (x ∷ back)) × (length front ≡ i)
get_parts [] i x at = absurd (cc)
get_parts (y ∷ xs) zero x at = let same : y ≡ x = cc in ([], xs, ap (λ z. z ∷ xs) same, refl)
get_parts (y ∷ xs) (suc i) x at = let parts = get_parts xs i x at in (y ∷ parts.0, parts.1, ap (λ l. y ∷ l) parts.2, ap suc parts.3)
