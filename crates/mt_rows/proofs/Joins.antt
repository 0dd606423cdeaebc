-- Rows of a height side by side: what stands for them together, and what two tables that share their spans have in common.
use Rattle.mt_rows.proofs.Prelude.{◌≡◌, ℕ, zero, suc, ◌+◌, List, [], ◌∷◌, ◌++◌, Bool, refl, sym, ap, ◌∙◌, subst, arith, AllByRecursion, flat_map, flat_map-append, all_front, all_back, all_join, Span, leaf_range, Table, expand, level, map_of, Levels, tally, times, SameSpans}
use Rattle.mt_rows.proofs.Lists.{tally-append, expand-append}

pub map_of-append : (t : Table) (h : ℕ) (xs ys : List Span) → map_of t h (xs ++ ys) ≡ map_of t h xs ++ map_of t h ys
map_of-append t zero xs ys = rw (expand-append t xs ys) (flat_map-append leaf_range (expand t xs) (expand t ys))
map_of-append t (suc h) xs ys = rw (expand-append t xs ys) (map_of-append t h (expand t xs) (expand t ys))

pub level-append : (t : Table) (d : ℕ) (xs ys : List Span) → level t d (xs ++ ys) ≡ level t d xs ++ level t d ys
level-append t zero xs ys = refl
level-append t (suc d) xs ys = rw (expand-append t xs ys) (level-append t d (expand t xs) (expand t ys))

pub times-append : (p : ℕ → Span → Bool) (t : Table) (h : ℕ) (xs ys : List Span) → times p t h (xs ++ ys) ≡ times p t h xs + times p t h ys
times-append p t zero xs ys = tally-append (p zero) xs ys
times-append p t (suc h) xs ys =
    let here = tally-append (p (suc h)) xs ys in
    let below = times-append p t h (expand t xs) (expand t ys) in
    rw (expand-append t xs ys) (omega (arith, here, below))

pub levels_join : (P : ℕ → Span → Type 0) (t : Table) (h : ℕ) (xs ys : List Span) → Levels P t h xs → Levels P t h ys → Levels P t h (xs ++ ys)
levels_join P t zero xs ys front back = all_join (P zero) xs ys front back
levels_join P t (suc h) xs ys front back = (all_join (P (suc h)) xs ys front.0 back.0, subst (Levels P t h) (sym (expand-append t xs ys)) (levels_join P t h (expand t xs) (expand t ys) front.1 back.1))

pub levels_front : (P : ℕ → Span → Type 0) (t : Table) (h : ℕ) (xs ys : List Span) → Levels P t h (xs ++ ys) → Levels P t h xs
levels_front P t zero xs ys both = all_front (P zero) xs ys both
levels_front P t (suc h) xs ys both = (all_front (P (suc h)) xs ys both.0, levels_front P t h (expand t xs) (expand t ys) (subst (Levels P t h) (expand-append t xs ys) both.1))

pub levels_back : (P : ℕ → Span → Type 0) (t : Table) (h : ℕ) (xs ys : List Span) → Levels P t h (xs ++ ys) → Levels P t h ys
levels_back P t zero xs ys both = all_back (P zero) xs ys both
levels_back P t (suc h) xs ys both = (all_back (P (suc h)) xs ys both.0, levels_back P t h (expand t xs) (expand t ys) (subst (Levels P t h) (expand-append t xs ys) both.1))

-- ---- where two tables have the same spans

abbrev pub Shared : Table → Table → ℕ → Span → Type 0
Shared t t' h x = SameSpans t t' x

pub expand_shared : (t t' : Table) (xs : List Span) → AllByRecursion (SameSpans t t') xs → expand t' xs ≡ expand t xs
expand_shared t t' [] same = refl
expand_shared t t' (x ∷ xs) same = let behind = expand_shared t t' xs same.1 in let first = same.0 in λ i. first i ++ behind i

pub map_of_shared : (t t' : Table) (h : ℕ) (xs : List Span) → Levels (Shared t t') t h xs → map_of t' h xs ≡ map_of t h xs
map_of_shared t t' zero xs same = ap (λ (l : List Span). flat_map leaf_range l) (expand_shared t t' xs same)
map_of_shared t t' (suc h) xs same = ap (map_of t' h) (expand_shared t t' xs same.0) ∙ map_of_shared t t' h (expand t xs) same.1

pub times_shared : (p : ℕ → Span → Bool) (t t' : Table) (h : ℕ) (xs : List Span) → Levels (Shared t t') t h xs → times p t' h xs ≡ times p t h xs
times_shared p t t' zero xs same = refl
times_shared p t t' (suc h) xs same = ap (λ (n : ℕ). tally (p (suc h)) xs + n) (ap (times p t' h) (expand_shared t t' xs same.0) ∙ times_shared p t t' h (expand t xs) same.1)

-- what holds of the rows holds by both tables
pub levels_shared : (P : ℕ → Span → Type 0) (t t' : Table) (h : ℕ) (xs : List Span) → Levels (Shared t t') t h xs → Levels P t h xs → Levels P t' h xs
levels_shared P t t' zero xs same rows = rows
levels_shared P t t' (suc h) xs same rows = (rows.0, subst (Levels P t' h) (sym (expand_shared t t' xs same.0)) (levels_shared P t t' h (expand t xs) same.1 rows.1))
