-- By depth and by levels the longest hole below rows is the same.
use Rattle.mt_check.proofs.Prelude.{◌≡◌, ℕ, zero, suc, ◌<◌, List, [], ◌∷◌, ◌++◌, Option, Some, Bool, true, false, refl, ap, ◌∙◌, arith, max, AllByRecursion, RowKind, Leaf, Span, named_kind, longest_in, Table, spans_in, inner_of, expand, Levels, Tree, IsRow, longest_below, IsLeaf, IsInner, leaves, inners, levels_front, levels_back, longest_in-append, longest_of, longest_by, longest_at}

longest_of-append : (f : Span → ℕ) (xs ys : List Span) → longest_of f (xs ++ ys) ≡ max (longest_of f xs) (longest_of f ys)
longest_of-append f [] ys = omega arith
longest_of-append f (x ∷ xs) ys = let behind = longest_of-append f xs ys in omega arith

by_leaf : (k : Option RowKind) (leaf inner : ℕ) → k ≡ Some Leaf → longest_by k leaf inner ≡ leaf
by_leaf k leaf inner is = ap (λ (k : Option RowKind). longest_by k leaf inner) is

by_inner : (gapped : Bool) (k : Option RowKind) (leaf inner : ℕ) → k ≡ Some (inner_of gapped) → longest_by k leaf inner ≡ inner
by_inner false k leaf inner is = ap (λ (k : Option RowKind). longest_by k leaf inner) is
by_inner true k leaf inner is = ap (λ (k : Option RowKind). longest_by k leaf inner) is

pub longest_at-leaf : (t : Table) (left : ℕ) (x : Span) → IsLeaf x → longest_at t (suc left) x ≡ longest_in (spans_in t x)
unfolding longest_at
longest_at-leaf t left x leaf = by_leaf (named_kind x.word) (longest_in (spans_in t x)) (longest_of (longest_at t left) (spans_in t x)) leaf

pub longest_at-inner : (gapped : Bool) (t : Table) (left : ℕ) (x : Span) → IsInner gapped x → longest_at t (suc left) x ≡ longest_of (longest_at t left) (spans_in t x)
unfolding longest_at
longest_at-inner gapped t left x inner = by_inner gapped (named_kind x.word) (longest_in (spans_in t x)) (longest_of (longest_at t left) (spans_in t x)) inner

leaf_longest : (t : Table) (left : ℕ) (xs : List Span) → AllByRecursion IsLeaf xs → longest_of (longest_at t (suc left)) xs ≡ longest_in (expand t xs)
leaf_longest t left [] leaf = refl
leaf_longest t left (x ∷ xs) leaf =
    let first = longest_at-leaf t left x leaf.0 in
    let behind = leaf_longest t left xs leaf.1 in
    let both = longest_in-append (spans_in t x) (expand t xs) in
    omega arith

inner_longest : (gapped : Bool) (t : Table) (left : ℕ) (xs : List Span) → AllByRecursion (IsInner gapped) xs → longest_of (longest_at t (suc left)) xs ≡ longest_of (longest_at t left) (expand t xs)
inner_longest gapped t left [] inner = refl
inner_longest gapped t left (x ∷ xs) inner =
    let first = longest_at-inner gapped t left x inner.0 in
    let behind = inner_longest gapped t left xs inner.1 in
    let both = longest_of-append (longest_at t left) (spans_in t x) (expand t xs) in
    omega arith

longest_by_levels : (t : Tree) (left h : ℕ) (xs : List Span) → h < left → Levels (IsRow t) t.table h xs → longest_of (longest_at t.table left) xs ≡ longest_below t.table h xs
longest_by_levels t zero h xs deep rows = absurd (omega arith)
longest_by_levels t (suc left) zero xs deep rows = leaf_longest t.table left xs (leaves t xs rows)
longest_by_levels t (suc left) (suc h) xs deep rows =
    inner_longest t.gapped t.table left xs (inners t h xs rows.0) ∙ longest_by_levels t left h (expand t.table xs) (omega arith) rows.1

-- of each of these rows
pub each_longest : (t : Tree) (left h : ℕ) (xs : List Span) → h < left → Levels (IsRow t) t.table h xs → AllByRecursion (λ (x : Span). longest_at t.table left x ≡ longest_below t.table h (x ∷ [])) xs
each_longest t left h [] deep rows = tt
each_longest t left h (x ∷ xs) deep rows = (
  (let one = longest_by_levels t left h (x ∷ []) deep (levels_front (IsRow t) t.table h (x ∷ []) xs rows) in omega arith),
  each_longest t left h xs deep (levels_back (IsRow t) t.table h (x ∷ []) xs rows),
)
