-- What a row covers as the walk comes to it, and how deep it stands.
use Rattle.mt_check.proofs.Prelude.{ℕ, zero, suc, ◌+◌, ◌<◌, ◌≤◌, List, [], ◌∷◌, Option, Some, None, refl, sym, ◌∙◌, subst, arith, append-nil, AllByRecursion, eq-eqb, ne_eqb, deepest, RowKind, Leaf, Inner, Gapped, Span, named_kind, Fills, fills_le, Table, spans_in, root_span, levels_by, of_first, height_of, Tree, top_of, IsRow, IsPart, inner_wide, expand_parts, depth_at}
use Rattle.mt_check.proofs.Passes.{RootCovers}

pub record Placed (t : Tree) (left : ℕ) (x : Span) : Type 0 where
  pub root : RootCovers t left x
  pub order : x.first ≤ x.last
  pub within : x.last ≤ top_of t

pub root_placed : (t : Tree) → Placed t deepest (root_span t.table t.root)
root_placed t = record { root = eq-eqb (top_of t) (top_of t) refl; order = omega arith; within = omega arith }

parts_placed : (t : Tree) (left lo hi : ℕ) (xs : List Span) → left < deepest → hi ≤ top_of t + 1 → AllByRecursion (IsPart t) xs → Fills lo hi xs → AllByRecursion (Placed t left) xs
parts_placed t left lo hi [] low within parts fills = tt
parts_placed t left lo hi (x ∷ xs) low within parts fills =
    let begins = fills.0 in let order = fills.1 in
    let behind = fills_le (x.last + 1) hi xs fills.2 in
    (record { root = parts.0 ∙ sym (ne_eqb (depth_at left) 1 (λ e. omega arith)); order = omega arith; within = omega arith }, parts_placed t left (x.last + 1) hi xs low within parts.1 fills.2)

-- what stands in an inner row
pub children_placed : (t : Tree) (left h : ℕ) (x : Span) → left < deepest → Placed t (suc left) x → IsRow t (suc h) x → AllByRecursion (Placed t left) (spans_in t.table x)
children_placed t left h x low placed row =
    let within = placed.within in
    let parts = expand_parts t x.first (x.last + 1) (x ∷ []) (omega arith) (inner_wide t h x row, tt) (refl, placed.order, refl) in
    parts_placed t left x.first (x.last + 1) (spans_in t.table x) low (omega arith) (subst (AllByRecursion (IsPart t)) (append-nil (spans_in t.table x)) parts) row.pivots.fills

-- ---- no tree is counted higher than it is looked at

first_low : (f : Span → ℕ) (most : ℕ) (xs : List Span) → ((x : Span) → f x ≤ most) → of_first f xs ≤ most
first_low f most [] low = omega arith
first_low f most (x ∷ xs) low = low x

levels_low : (k : Option RowKind) (below most : ℕ) → below ≤ most → levels_by k below ≤ suc most
levels_low None below most low = omega arith
levels_low (Some Leaf) below most low = omega arith
levels_low (Some Inner) below most low = omega arith
levels_low (Some Gapped) below most low = omega arith

pub height_low : (t : Table) (depth : ℕ) (x : Span) → height_of t depth x ≤ depth
height_low t zero x = omega arith
height_low t (suc depth) x = levels_low (named_kind x.word) (of_first (height_of t depth) (spans_in t x)) depth (first_low (height_of t depth) depth (spans_in t x) (height_low t depth))
