-- The rows of a walk, compared one after another.
use Rattle.mt_image.proofs.Prelude.{◌≡◌, ◌≢◌, ℕ, zero, suc, ◌+◌, ◌-◌, ◌<◌, ◌≤◌, ◌==◌, true, false, List, [], ◌∷◌, Option, Some, None, drop, refl, ap, ◌∙◌, arith, eq-eqb, ne_eqb, slice_get, first_row, stray_from}

-- what is found from a place on
abbrev pub from_place : List ℕ → ℕ → ℕ → Option ℕ
from_place walk rows at = stray_from (first_row + at) (rows - at) (drop at walk)

drop_next : (walk : List ℕ) (at row : ℕ) → slice_get walk at ≡ Some row → drop at walk ≡ row ∷ drop (suc at) walk
drop_next [] at row is = absurd (cc)
drop_next (r ∷ walk) zero row is = let same : r ≡ row = cc in ap (λ (x : ℕ). x ∷ walk) same
drop_next (r ∷ walk) (suc at) row is = drop_next walk at row is

none_left : (walk : List ℕ) (at : ℕ) → slice_get walk at ≡ None → drop at walk ≡ []
none_left [] zero is = refl
none_left [] (suc at) is = refl
none_left (r ∷ walk) zero is = absurd (cc)
none_left (r ∷ walk) (suc at) is = none_left walk at is

left_is : (rows at : ℕ) → at < rows → rows - at ≡ suc (rows - (at + 1))
left_is rows at within = omega arith

pub at_place : (walk : List ℕ) (rows at : ℕ) → at < rows → slice_get walk at ≡ Some (first_row + at) → from_place walk rows at ≡ from_place walk rows (at + 1)
at_place walk rows at within is =
    let here : (first_row + at == first_row + at) ≡ true = eq-eqb (first_row + at) (first_row + at) refl in
    let next : suc at ≡ at + 1 = omega arith in
    let number : first_row + at + 1 ≡ first_row + (at + 1) = omega arith in
    (λ i. stray_from (first_row + at) (left_is rows at within i) (drop_next walk at (first_row + at) is i))
    ∙ rw here (λ i. stray_from (number i) (rows - (at + 1)) (drop (next i) walk))

pub other_row : (walk : List ℕ) (rows at row : ℕ) → at < rows → slice_get walk at ≡ Some row → row ≢ first_row + at → from_place walk rows at ≡ Some (first_row + at)
other_row walk rows at row within is other =
    let not_here : (row == first_row + at) ≡ false = ne_eqb row (first_row + at) other in
    (λ i. stray_from (first_row + at) (left_is rows at within i) (drop_next walk at row is i)) ∙ rw not_here refl

pub no_row : (walk : List ℕ) (rows at : ℕ) → at < rows → slice_get walk at ≡ None → from_place walk rows at ≡ Some (first_row + at)
no_row walk rows at within is = (λ i. stray_from (first_row + at) (left_is rows at within i) (none_left walk at is i))

pub all_at_place : (walk : List ℕ) (rows at : ℕ) → rows ≤ at → from_place walk rows at ≡ None
all_at_place walk rows at past = let none : rows - at ≡ zero = omega arith in ap (λ (n : ℕ). stray_from (first_row + at) n (drop at walk)) none

pub off_place : (walk : List ℕ) (rows at : ℕ) → at < rows → (slice_get walk at ≡ Some (first_row + at) → ⊥) → from_place walk rows at ≡ Some (first_row + at)
off_place walk rows at within other = by_item (slice_get walk at) refl
  where
    by_item : (o : Option ℕ) → slice_get walk at ≡ o → from_place walk rows at ≡ Some (first_row + at)
    by_item None is = no_row walk rows at within is
    by_item (Some row) is = other_row walk rows at row within is (λ same. other (is ∙ ap (λ (r : ℕ). Some r) same))
