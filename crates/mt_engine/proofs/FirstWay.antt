-- The way to the first index: its steps are all in the first slot, and there are as many as the tree has levels.
use Rattle.mt_engine.proofs.Prelude.{◌≡◌, ℕ, zero, suc, ◌+◌, ◌*◌, List, [], ◌∷◌, Option, Some, None, length, max, nat_lt, false, refl, sym, ap, ◌∙◌, inl, inr, arith, le-ltb, Kind, deepest, RowKind, Leaf, Inner, Gapped, Span, named_kind, Table, spans_in, root_span, by_kind, height_in, IsTree, Rooted, IsTreeOf, tree_as, height_by_depth, PathStep, slot_for, step_in, below, path_of, path_in, loads_in, loads_on, loads_in-append, path_of_none, levels}

-- ---- the loads

first_slot : (xs : List Span) → slot_for xs 0 ≡ 0
first_slot [] = refl
first_slot (x ∷ xs) = let none : nat_lt x.last 0 ≡ false = le-ltb x.last 0 (omega arith) in rw none refl

one_more : (s : PathStep) (steps : List PathStep) → s.slot ≡ 0 → loads_in steps ≡ 14 * length steps → loads_in (s ∷ steps) ≡ 14 * length (s ∷ steps)
one_more s steps first many =
    let parts = loads_in-append (s ∷ []) steps in
    let one : loads_in (s ∷ []) ≡ 14 = ap (λ (n : ℕ). 0 + (max 13 (n + 1) + 1)) first in
    omega (arith, parts, one, many)

-- a step of the way to the first index, before others
first_step : (t : Table) (x : Span) (steps : List PathStep) → loads_in steps ≡ 14 * length steps → loads_in (step_in t x 0 ∷ steps) ≡ 14 * length (step_in t x 0 ∷ steps)
first_step t x steps many = one_more (step_in t x 0) steps (first_slot (spans_in t x)) many

by_name : (t : Table) (x : Span) (name : Option RowKind) (steps : List PathStep) → loads_in steps ≡ 14 * length steps
    → loads_in (by_kind name (step_in t x 0 ∷ []) (step_in t x 0 ∷ steps)) ≡ 14 * length (by_kind name (step_in t x 0 ∷ []) (step_in t x 0 ∷ steps))
by_name t x None steps many = refl
by_name t x (Some Leaf) steps many = first_step t x [] refl
by_name t x (Some Inner) steps many = first_step t x steps many
by_name t x (Some Gapped) steps many = first_step t x steps many

first_loads : (t : Table) (depth : ℕ) (x : Span) → loads_in (path_of t depth x 0) ≡ 14 * length (path_of t depth x 0)
unfolding path_of
first_loads t zero x = refl
first_loads t (suc depth) x = by_name t x (named_kind x.word) (path_of t depth (below t x 0) 0) (first_loads t depth (below t x 0))

pub loads_on_first : (t : Rooted) (path : List PathStep) → path ≡ path_in t.table t.root 0 → loads_on path ≡ 14 * length path + 1
loads_on_first t path is = let first = first_loads t.table deepest (root_span t.table t.root) in let same = ap loads_in is in let long = ap length is in omega (arith, first, same, long)

-- ---- the levels

pub way_height : (kind : Kind) (t : Rooted) (path : List PathStep) (index : ℕ) → IsTreeOf t kind → index ≡ 0 → path ≡ path_in t.table t.root index → length path ≡ height_in t.table t.root
way_height kind t path index tree is_first is = by tree.words
  where
    by : IsTree (tree_as kind t) → length path ≡ height_in t.table t.root
    by (inl empty) = ap length (is ∙ path_of_none t.table deepest (root_span t.table t.root) index (ap named_kind empty)) ∙ sym (ap (height_in t.table) empty)
    by (inr (h, stands)) =
        ap length is ∙ (levels (tree_as kind t) h stands index (omega (arith, is_first)) ∙ sym (height_by_depth (tree_as kind t) deepest h (root_span t.table t.root) stands.low stands.rows))
