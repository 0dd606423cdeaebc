-- Words stand for maps: each range stands behind the one before it, and none ends above the greatest index.
use Rattle.mt_rows.proofs.Prelude.{◌≡◌, ℕ, zero, suc, ◌+◌, ◌≤◌, ◌==◌, List, [], ◌∷◌, refl, sym, subst, inl, inr, arith, AllByRecursion, flat_map, cases_Bool, eqb-false, Range, Kind, Width, IsMapFrom, IsMap, IsMapFrom-lower, greatest, kind_width, deepest, all_map, Span, leaf_range, Fills, Table, root_span, expand, map_of, Levels, map_in, Tree, IsRow, Stands, top_of}
use Rattle.mt_rows.proofs.Lists.{Filled, expand_fills}
use Rattle.mt_rows.proofs.Depth.{ranges_by_depth}
use Rattle.mt_rows.proofs.Between.{Between, map_between}

pub rows_filled : (t : Tree) (h : ℕ) (xs : List Span) → AllByRecursion (IsRow t h) xs → AllByRecursion (Filled t.table) xs
rows_filled t h xs rows = all_map (IsRow t h) (Filled t.table) (λ x row. row.pivots.fills) xs rows

leaf_map : (lo hi : ℕ) (xs : List Span) → Fills lo hi xs → IsMapFrom lo (flat_map leaf_range xs)
leaf_map lo hi [] fills = tt
leaf_map lo hi (x ∷ xs) fills =
    let begins = fills.0 in let ends = fills.1 in
    let behind = leaf_map (x.last + 1) hi xs fills.2 in
    elim (cases_Bool (x.word == 0)) [
      | inl hole ↦ rw hole (IsMapFrom-lower (flat_map leaf_range xs) lo (x.last + 1) (omega arith) behind)
      | inr entry ↦ rw entry (omega arith, omega arith, omega (arith, eqb-false x.word 0 entry), behind)
    ]

pub levels_map_from : (t : Tree) (h lo hi : ℕ) (xs : List Span) → Levels (IsRow t) t.table h xs → Fills lo hi xs → IsMapFrom lo (map_of t.table h xs)
levels_map_from t zero lo hi xs rows fills = leaf_map lo hi (expand t.table xs) (expand_fills t.table lo hi xs (rows_filled t zero xs rows) fills)
levels_map_from t (suc h) lo hi xs rows fills = levels_map_from t h lo hi (expand t.table xs) rows.1 (expand_fills t.table lo hi xs (rows_filled t (suc h) xs rows.0) fills)

pub empty_map : (t : Table) → map_in t 0 ≡ []
empty_map t = refl

-- the ranges of a tree rise, and none ends above the greatest index
module _ (t : Tree) (h : ℕ) (stands : Stands t h) where
  by_levels : map_in t.table t.root ≡ map_of t.table h (root_span t.table t.root ∷ [])
  by_levels = ranges_by_depth t deepest h (root_span t.table t.root) stands.low stands.rows

  pub tree_rises : IsMapFrom 0 (map_in t.table t.root)
  tree_rises = subst (IsMapFrom 0) (sym by_levels) (levels_map_from t h 0 (top_of t + 1) (root_span t.table t.root ∷ []) stands.rows (refl, omega arith, refl))

  pub tree_within : AllByRecursion (λ (r : Range). r.last ≤ top_of t) (map_in t.table t.root)
  tree_within =
      subst (AllByRecursion (λ (r : Range). r.last ≤ top_of t)) (sym by_levels)
      (all_map (Between 0 (top_of t + 1)) (λ (r : Range). r.last ≤ top_of t) (λ r between. let ends = between.2 in omega arith) (map_of t.table h (root_span t.table t.root ∷ []))
      (map_between t h 0 (top_of t + 1) (root_span t.table t.root ∷ []) stands.rows (refl, omega arith, refl)))

  pub tree_map : (kind : Kind) → t.table.width ≡ kind_width kind → IsMap kind (map_in t.table t.root)
  tree_map kind wide = record { rise = tree_rises; within = subst (λ (w : Width). AllByRecursion (λ (r : Range). r.last ≤ greatest w) (map_in t.table t.root)) wide tree_within }
