-- Calls that are made again lead to the map after so many of them.
use Rattle.mt_verify.proofs.Prelude.{◌≡◌, ℕ, zero, suc, List, [], ◌∷◌, length, take, min, ap, ◌∙◌, arith, fold, take_all, take-nil, Kind, Range, Noted, map_after_noted, map_of_noted}

take_min : {X : Type 0} (k : ℕ) (xs : List X) → take (min k (length xs)) xs ≡ take k xs
take_min zero xs =
    let none : min zero (length xs) ≡ zero = omega arith in
    ap (λ n. take n xs) none
take_min (suc k) [] = take-nil (min (suc k) zero)
take_min (suc k) (x ∷ xs) =
    let one : min (suc k) (length (x ∷ xs)) ≡ suc (min k (length xs)) = omega arith in
    ap (λ n. take n (x ∷ xs)) one ∙ ap (λ l. x ∷ l) (take_min k xs)

pub first_calls : (kind : Kind) (opening : List Range) (noted : List Noted) (k : ℕ) → map_of_noted kind opening (take (min k (length noted)) noted) (length (take (min k (length noted)) noted)) ≡ map_of_noted kind opening noted k
first_calls kind opening noted k =
    ap (fold (map_after_noted kind) opening) (take_all (length (take (min k (length noted)) noted)) (take (min k (length noted)) noted) (omega arith) ∙ take_min k noted)
