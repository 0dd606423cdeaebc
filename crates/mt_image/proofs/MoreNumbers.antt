-- Numbers that are read one after another.
use Rattle.mt_image.proofs.Prelude.{◌≡◌, ℕ, zero, suc, ◌+◌, ◌*◌, List, [], ◌∷◌, ◌++◌, refl, ap, ◌∙◌, arith, number_at, numbers_from}

-- one number more at the end
pub number_more : (bytes : List ℕ) (at n : ℕ) → numbers_from bytes at (suc n) ≡ numbers_from bytes at n ++ (number_at bytes (at + 8 * n) ∷ [])
unfolding numbers_from
number_more bytes at zero = let same : at ≡ at + 8 * zero = omega arith in ap (λ (k : ℕ). number_at bytes k ∷ []) same
number_more bytes at (suc n) =
    let same : at + 8 + 8 * n ≡ at + 8 * suc n = omega arith in
    ap (λ (l : List ℕ). number_at bytes at ∷ l) (number_more bytes (at + 8) n ∙ ap (λ (k : ℕ). numbers_from bytes (at + 8) n ++ (number_at bytes k ∷ [])) same)

pub no_numbers : (bytes : List ℕ) (at : ℕ) → numbers_from bytes at 0 ≡ []
unfolding numbers_from
no_numbers bytes at = refl
