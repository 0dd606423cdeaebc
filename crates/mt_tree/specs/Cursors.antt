-- There is only one proof that a walk is of a handle, so a cursor can keep it.
-- Source: this project's own.
use Rattle.std.specs.Prelude.{ℕ, ◌+◌, ◌≤◌, List, [], ◌∷◌, ◌≡◌}
use Rattle.std.specs.Coded.{×_prop, →_prop, Unit-prop, le_prop, Coded-set, coded_ℕ}
use Rattle.mt_tree.specs.Prelude.{Span, Apart, BeginsFull, EndsFull, Fills}

pub fills_prop : (lo hi : ℕ) (xs : List Span) → IsProp (Fills lo hi xs)
fills_prop lo hi [] = Coded-set coded_ℕ lo hi
fills_prop lo hi (x ∷ xs) =
    let first : IsProp (x.first ≡ lo) = Coded-set coded_ℕ x.first lo in
    let low : IsProp (lo ≤ x.last) = le_prop in
    λ a b i. (first a.0 b.0 i, low a.1 b.1 i, fills_prop (x.last + 1) hi xs a.2 b.2 i)

pub begins_prop : (xs : List Span) → IsProp (BeginsFull xs)
begins_prop [] = Unit-prop
begins_prop (x ∷ xs) = →_prop (λ a b. absurd a)

pub apart_prop : (xs : List Span) → IsProp (Apart xs)
apart_prop [] = Unit-prop
apart_prop (x ∷ xs) = ×_prop (→_prop (begins_prop xs)) (apart_prop xs)

pub ends_prop : (xs : List Span) → IsProp (EndsFull xs)
ends_prop [] = Unit-prop
ends_prop (x ∷ []) = →_prop (λ a b. absurd a)
ends_prop (x ∷ y ∷ ys) = ends_prop (y ∷ ys)
