-- Rows at their places of a walk.
use Rattle.mt_image.proofs.Prelude.{◌≡◌, ℕ, zero, suc, ◌+◌, ◌<◌, ◌≤◌, ◌==◌, true, List, [], ◌∷◌, ◌++◌, Some, None, map, refl, ap, ◌∙◌, subst, inl, inr, arith, eq-eqb, range_with_len, cases_Bool, cases_eq, eqb-true, one_if, tally, tally-append, stray_from}

abbrev pub times_of : ℕ → List ℕ → ℕ
times_of row rows = tally (λ (r : ℕ). r == row) rows

-- ---- rows in order

pub in_range : (row from n : ℕ) → from ≤ row → row < from + n → 1 ≤ times_of row (range_with_len from n)
in_range row from zero low high = absurd (omega arith)
in_range row from (suc n) low high = elim (cases_eq from row) [
  | inl here ↦ let is : (from == row) ≡ true = eq-eqb from row here in rw is (omega arith)
  | inr other ↦ let behind = in_range row (from + 1) n (omega arith) (omega arith) in omega arith
]

-- what maps rows in order to rows in order leaves each, and as many
pub fixed : (f : ℕ → ℕ) (from n n' : ℕ) → map f (range_with_len from n) ≡ range_with_len from n' → (row : ℕ) → from ≤ row → row < from + n → f row ≡ row
fixed f from zero n' same row low high = absurd (omega arith)
fixed f from (suc n) zero same row low high = absurd (cc)
fixed f from (suc n) (suc n') same row low high = elim (cases_eq from row) [
  | inl here ↦ let first : f from ≡ from = cc in subst (λ (r : ℕ). f r ≡ r) here first
  | inr other ↦ let behind : map f (range_with_len (from + 1) n) ≡ range_with_len (from + 1) n' = cc in fixed f (from + 1) n n' behind row (omega arith) (omega arith)
]

pub as_many : (f : ℕ → ℕ) (from n n' : ℕ) → map f (range_with_len from n) ≡ range_with_len from n' → n' ≡ n
as_many f from zero zero same = refl
as_many f from zero (suc n') same = absurd (cc)
as_many f from (suc n) zero same = absurd (cc)
as_many f from (suc n) (suc n') same = let behind : map f (range_with_len (from + 1) n) ≡ range_with_len (from + 1) n' = cc in ap suc (as_many f (from + 1) n n' behind)

-- ---- strays

-- where none is stray, the walk begins with the rows in order
pub begins_in_order : (row n : ℕ) (walk : List ℕ) → stray_from row n walk ≡ None → (rest : List ℕ) × (walk ≡ range_with_len row n ++ rest)
begins_in_order row zero walk none = (walk, refl)
begins_in_order row (suc n) [] none = absurd (cc)
begins_in_order row (suc n) (r ∷ walk) none = elim (cases_Bool (r == row)) [
  | inl here ↦
      let behind : stray_from (row + 1) n walk ≡ None = rw here at none in
      let others = begins_in_order (row + 1) n walk behind in
      let first = eqb-true r row here in
      (others.0, λ i. first i ∷ others.1 i)
  | inr other ↦ let stray : Some row ≡ None = rw other at none in absurd (cc)
]

-- and where each row of the walk is one of these, and none comes twice, that is the whole walk
pub whole_in_order : (row n : ℕ) (walk : List ℕ) → stray_from row n walk ≡ None → ((r : ℕ) → times_of r walk ≤ 1) → ((r : ℕ) → 1 ≤ times_of r walk → (row ≤ r) × (r < row + n)) → walk ≡ range_with_len row n
whole_in_order row n walk none once inside =
    let begins = begins_in_order row n walk none in
    by_rest begins.0 begins.1
  where
    by_rest : (rest : List ℕ) → walk ≡ range_with_len row n ++ rest → walk ≡ range_with_len row n
    by_rest [] parts = parts ∙ append_none (range_with_len row n)
      where
        append_none : (xs : List ℕ) → xs ++ [] ≡ xs
        append_none [] = refl
        append_none (x ∷ xs) = ap (λ l. x ∷ l) (append_none xs)
    by_rest (r ∷ rest) parts =
        let counted = ap (times_of r) parts ∙ tally-append (λ (q : ℕ). q == r) (range_with_len row n) (r ∷ rest) in
        let here = ap one_if (eq-eqb r r refl) in
        let place = inside r (omega arith) in
        let low = place.0 in
        let high = place.1 in
        let front = in_range r row n low high in
        let most = once r in
        absurd (omega arith)

-- rows in order have no stray
pub stray_none : (row n : ℕ) → stray_from row n (range_with_len row n) ≡ None
stray_none row zero = refl
stray_none row (suc n) = let here : (row == row) ≡ true = eq-eqb row row refl in rw here (stray_none (row + 1) n)
