-- The longest hole below rows: side by side, and by two tables that share their spans.
use Rattle.mt_rows.proofs.Prelude.{◌≡◌, ℕ, zero, suc, List, [], ◌∷◌, ◌++◌, max, refl, ap, ◌∙◌, arith, Span, longest_in, Table, expand, Levels, longest_below}
use Rattle.mt_rows.proofs.Joins.{Shared, expand_shared}
use Rattle.mt_rows.proofs.Lists.{expand-append}

pub longest_in-append : (xs ys : List Span) → longest_in (xs ++ ys) ≡ max (longest_in xs) (longest_in ys)
longest_in-append [] ys = omega arith
longest_in-append (x ∷ xs) ys = let behind = longest_in-append xs ys in omega arith

pub longest_below-append : (t : Table) (h : ℕ) (xs ys : List Span) → longest_below t h (xs ++ ys) ≡ max (longest_below t h xs) (longest_below t h ys)
longest_below-append t zero xs ys = ap longest_in (expand-append t xs ys) ∙ longest_in-append (expand t xs) (expand t ys)
longest_below-append t (suc h) xs ys = ap (longest_below t h) (expand-append t xs ys) ∙ longest_below-append t h (expand t xs) (expand t ys)

pub longest_none : (t : Table) (h : ℕ) → longest_below t h [] ≡ 0
longest_none t zero = refl
longest_none t (suc h) = longest_none t h

pub longest_shared : (t t' : Table) (h : ℕ) (xs : List Span) → Levels (Shared t t') t h xs → longest_below t' h xs ≡ longest_below t h xs
longest_shared t t' zero xs same = ap longest_in (expand_shared t t' xs same)
longest_shared t t' (suc h) xs same = ap (longest_below t' h) (expand_shared t t' xs same.0) ∙ longest_shared t t' h (expand t xs) same.1
