-- The range that a store meets first: a find answers it, and there is one exactly where some range is met.
use Rattle.mt_base.proofs.Prelude.{◌≡◌, ℕ, ◌≤◌, Bool, true, false, List, [], ◌∷◌, filter, ◌&&◌, nat_le, refl, inl, inr, list_any, is_some, cases_Bool, le-ltb, Range, Find, answer, first_met, first_range, is_held, overlaps}

pub met_is_found : (m : List Range) (first last : ℕ) → first ≤ last → first_met m first last ≡ answer m (Find first last)
met_is_found m first last order = rw (le-ltb last first order) refl

-- whether some range passes a test is whether there is a first that does
any_is_first : (p q : Range → Bool) (m : List Range) → ((r : Range) → p r ≡ q r) → list_any p m ≡ is_some (first_range (filter q m))
any_is_first p q [] same = refl
any_is_first p q (r ∷ m) same =
    elim (cases_Bool (q r)) [ inl passes ↦ rw (same r, passes) refl | inr fails ↦ rw (same r, fails) (any_is_first p q m same) ]

and_swap : (a b : Bool) → (a && b) ≡ (b && a)
and_swap true true = refl
and_swap true false = refl
and_swap false true = refl
and_swap false false = refl

pub is_held_where_met : (m : List Range) (first last : ℕ) → is_held m first last ≡ is_some (first_met m first last)
is_held_where_met m first last = any_is_first (overlaps first last) (λ r. nat_le first r.last && nat_le r.first last) m (λ r. and_swap (nat_le r.first last) (nat_le first r.last))
