-- The path to an index is empty where the tree's map is. For the proofs of the crates above, too.
use Rattle.mt_path.proofs.Prelude.{◌≡◌, ◌≢◌, ℕ, zero, suc, ◌+◌, ◌<◌, ◌≤◌, List, [], ◌∷◌, ◌++◌, length, refl, sym, ap, ◌∙◌, inl, inr, arith, ◌↔◌, flat_map, flat_map-append, Kind, greatest, deepest, all_map, named_kind, Span, leaf_range, Fills, spans_in, root_span, expand, map_of, Levels, map_in, Rooted, IsTreeOf, tree_as, Filled, expand_fills, ranges_by_depth, PathStep, path_in}
use Rattle.mt_rows.specs.Laws as laws
use Rattle.mt_path.proofs.Steps.{path_of_none}
use Rattle.mt_path.proofs.TreePaths.{levels}

front_none : {A : Type 0} (xs ys : List A) → xs ++ ys ≡ [] → xs ≡ []
front_none [] ys none = refl
front_none (x ∷ xs) ys none = absurd (cc)

-- rows that cover some index hold an entry
some_below : (t : laws.Tree) (h lo hi : ℕ) (xs : List Span) → lo < hi → Levels (laws.IsRow t) t.table h xs → Fills lo hi xs → map_of t.table h xs ≢ []
some_below t zero lo hi [] some rows fills = absurd (omega arith)
some_below t zero lo hi (x ∷ xs) some rows fills = λ none. rows.0.holes.some (front_none (flat_map leaf_range (spans_in t.table x)) (flat_map leaf_range (expand t.table xs)) (sym (flat_map-append leaf_range (spans_in t.table x) (expand t.table xs)) ∙ none))
some_below t (suc h) lo hi xs some rows fills =
    some_below t h lo hi (expand t.table xs) some rows.1 (expand_fills t.table lo hi xs (all_map (laws.IsRow t (suc h)) (Filled t.table) (λ x row. row.pivots.fills) xs rows.0) fills)

empty_by : (t : laws.Tree) (index : ℕ) → laws.IsTree t → index ≤ laws.top_of t → (path_in t.table t.root index ≡ []) ↔ (map_in t.table t.root ≡ [])
empty_by t index (inl empty) within = (
  (λ _. ap (map_in t.table) empty),
  (λ _. path_of_none t.table deepest (root_span t.table t.root) index (ap named_kind empty)),
)
empty_by t index (inr (h, stands)) within = (
  (λ none. let long = levels t h stands index within in let short = ap length none in absurd (omega (arith, long, short))),
  (λ none. absurd (some_below t h 0 (laws.top_of t + 1) (root_span t.table t.root ∷ []) (omega arith) stands.rows (refl, omega arith, refl)
      (sym (ranges_by_depth t deepest h (root_span t.table t.root) stands.low stands.rows) ∙ none))),
)

pub empty_together : (t : Rooted) (kind : Kind) (index : ℕ) (steps : List PathStep) → IsTreeOf t kind → index ≤ greatest t.table.width → steps ≡ path_in t.table t.root index
    → (steps ≡ []) ↔ (map_in t.table t.root ≡ [])
empty_together t kind index steps tree within is =
    let both = empty_by (tree_as kind t) index tree.words within in
    ((λ none. both.0 (sym is ∙ none)), (λ none. is ∙ both.1 none))
