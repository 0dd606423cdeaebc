-- What stands in rows side by side, and what holds of the rows of a level.
use Rattle.mt_rows.proofs.Prelude.{◌≡◌, ℕ, zero, suc, ◌+◌, ◌<◌, List, [], ◌∷◌, ◌++◌, Bool, length, get_or, subst, arith, append-nil, AllByRecursion, flat_map-append, Span, Table, spans_in, Fills, expand, Levels, tally}
-- these stand below; here they are for the crates above
pub use Rattle.mt_base.proofs.Lists.{all_map, all_front, all_back, all_join}
pub use Rattle.mt_layout.proofs.SpanLists.{fills_le, fills-append}

pub tally-append : {A : Type 0} (p : A → Bool) (xs ys : List A) → tally p (xs ++ ys) ≡ tally p xs + tally p ys
tally-append p [] ys = omega arith
tally-append p (x ∷ xs) ys = let behind = tally-append p xs ys in omega arith

pub all_at : {A : Type 0} (P : A → Type 0) (xs : List A) (i : ℕ) (d : A) → AllByRecursion P xs → i < length xs → P (get_or xs i d)
all_at P [] i d each within = absurd (omega arith)
all_at P (x ∷ xs) zero d each within = each.0
all_at P (x ∷ xs) (suc i) d each within = all_at P xs i d each.1 (omega arith)

pub expand-append : (t : Table) (xs ys : List Span) → expand t (xs ++ ys) ≡ expand t xs ++ expand t ys
expand-append t xs ys = flat_map-append (spans_in t) xs ys

pub all_expand : (P : Span → Type 0) (t : Table) (xs : List Span) → AllByRecursion (λ (x : Span). AllByRecursion P (spans_in t x)) xs → AllByRecursion P (expand t xs)
all_expand P t [] each = tt
all_expand P t (x ∷ xs) each = all_join P (spans_in t x) (expand t xs) each.0 (all_expand P t xs each.1)

-- ---- what rows cover

-- the row's spans fill what the row covers
abbrev pub Filled : Table → Span → Type 0
Filled t x = Fills x.first (x.last + 1) (spans_in t x)

pub expand_fills : (t : Table) (lo hi : ℕ) (xs : List Span) → AllByRecursion (Filled t) xs → Fills lo hi xs → Fills lo hi (expand t xs)
expand_fills t lo hi [] rows fills = fills
expand_fills t lo hi (x ∷ xs) rows fills =
    fills-append lo (x.last + 1) hi (spans_in t x) (expand t xs) (subst (λ (k : ℕ). Fills k (x.last + 1) (spans_in t x)) fills.0 rows.0) (expand_fills t (x.last + 1) hi xs rows.1 fills.2)

-- ---- levels

pub levels_map : (P Q : ℕ → Span → Type 0) (t : Table) → ((h : ℕ) (x : Span) → P h x → Q h x) → (h : ℕ) (xs : List Span) → Levels P t h xs → Levels Q t h xs
levels_map P Q t f zero xs rows = all_map (P zero) (Q zero) (f zero) xs rows
levels_map P Q t f (suc h) xs rows = (all_map (P (suc h)) (Q (suc h)) (f (suc h)) xs rows.0, levels_map P Q t f h (expand t xs) rows.1)

pub levels_here : (P : ℕ → Span → Type 0) (t : Table) (h : ℕ) (xs : List Span) → Levels P t h xs → AllByRecursion (P h) xs
levels_here P t zero xs rows = rows
levels_here P t (suc h) xs rows = rows.0

pub levels_none : (P : ℕ → Span → Type 0) (t : Table) (h : ℕ) → Levels P t h []
levels_none P t zero = tt
levels_none P t (suc h) = (tt, levels_none P t h)

-- what holds below a row holds below its children
pub children_hold : (P : ℕ → Span → Type 0) (t : Table) (h : ℕ) (x : Span) → Levels P t (suc h) (x ∷ []) → Levels P t h (spans_in t x)
children_hold P t h x rows = subst (Levels P t h) (append-nil (spans_in t x)) rows.1
