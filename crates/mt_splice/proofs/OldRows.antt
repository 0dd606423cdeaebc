-- Items of the rows of the tree as it was: they tell their gaps, and so do parts of them, and those of two rows side by side.
use Rattle.mt_splice.proofs.Prelude.{◌≡◌, ℕ, suc, ◌+◌, ◌≤◌, List, ◌++◌, take, drop, refl, sym, ◌∙◌, subst, ⊎_elim, arith, take-append-drop, AllByRecursion, all_front, all_back, all_join, Item, Span, spans_from, Fills, after, spans-take, spans-drop, PathStep, path_in, step_at, step_in, lawful, place, Tree, IsRow, Stands, GapLaw, kind_on, top_of, IsBelow, root_of, inner_of, root_span, spans_in, level_next, level_rows, IsOneOf, all_of_each, all_one_of, level_is_below, one_of_expand, one_of_parts, depth_at, AreOld, HadGaps, row_at, Start, rows_at, items_of_row}
use Rattle.mt_splice.proofs.GapRows.{row_tells}
use Rattle.mt_splice.proofs.Raised.{begin_there}
use Rattle.mt_splice.proofs.ToldRows.{tells_append, tells_take, tells_drop}
use Rattle.mt_splice.proofs.Widened.{step_is, spans_of}

-- ---- a path's row

module _ (start : Start) (stands : Stands start.tree start.height) (had : HadGaps start) (path : List PathStep) (i d k : ℕ) (within : i ≤ top_of start.tree) (levels : start.height ≡ d + suc k) (is_path : path ≡ path_in start.tree.table start.tree.root i) where
  abbrev t : Tree
  t = start.tree

  abbrev x : Span
  x = row_at t d i

  abbrev Below : Span → Type 0
  Below = IsBelow t.table (depth_at start k) (root_span t.table t.root)

  here : IsOneOf x (rows_at t d)
  here = let at = place t start.height stands i d within (omega (arith, levels)) in one_of_parts (rows_at t d) at.front at.back x at.parts

  law : IsRow t (suc k) x
  law = lawful t start.height stands i d (suc k) within levels

  gap_law : GapLaw t (suc k) x
  gap_law = all_one_of (GapLaw t (suc k)) (rows_at t d) x (level_rows (GapLaw t) t.table d (suc k) start.height (root_of t) levels had) here

  child_below : (c : Span) → IsOneOf c (spans_in t.table x) → Below c
  child_below c one =
      let on = subst (IsOneOf c) (sym (level_next t.table d (root_of t))) (one_of_expand t.table (rows_at t d) x c here one) in
      let below = level_is_below t (suc d) k start.height (root_of t) c (omega (arith, levels)) stands.rows on in
      let deep : suc d ≡ depth_at start k = omega (arith, levels) in
      subst (λ (e : ℕ). IsBelow t.table e (root_span t.table t.root) c) deep
      (⊎_elim (λ (same : below.0 ≡ root_span t.table t.root). subst (λ (r : Span). IsBelow t.table (suc d) r c) same below.2) (λ (none : ⊥). absurd none) below.1)

  pub row_is_old : AreOld start k (step_at path d).min (items_of_row t.table (kind_on t.gapped (suc k)) (step_at path d).row (step_at path d).max)
  row_is_old = subst (λ (z : PathStep). AreOld start k z.min (items_of_row t.table (kind_on t.gapped (suc k)) z.row z.max)) (sym (step_is t start.height stands path i d within (omega (arith, levels)) is_path)) (record {
    rows = subst (AllByRecursion Below) (spans_of t (suc k) i x (step_in t.table x i) law refl) (all_of_each Below (spans_in t.table x) child_below);
    gaps = row_tells (inner_of t.gapped) t.table k x law.name.named gap_law;
  })

  -- and fill its indexes
  pub row_fills : Fills (step_at path d).min ((step_at path d).max + 1) (spans_from (step_at path d).min (items_of_row t.table (kind_on t.gapped (suc k)) (step_at path d).row (step_at path d).max))
  row_fills = subst (λ (z : PathStep). Fills z.min (z.max + 1) (spans_from z.min (items_of_row t.table (kind_on t.gapped (suc k)) z.row z.max))) (sym (step_is t start.height stands path i d within (omega (arith, levels)) is_path))
      (subst (Fills x.first (x.last + 1)) (spans_of t (suc k) i x (step_in t.table x i) law refl) law.pivots.fills)

-- ---- parts, and side by side

module _ (start : Start) (h : ℕ) where
  abbrev Row : Span → Type 0
  Row = IsBelow start.tree.table (depth_at start h) (root_span start.tree.table start.tree.root)

  pub take_old : (lo k : ℕ) (xs : List Item) → AreOld start h lo xs → AreOld start h lo (take k xs)
  take_old lo k xs old = record {
    rows = subst (AllByRecursion Row) (sym (spans-take k lo xs)) (all_front Row (take k (spans_from lo xs)) (drop k (spans_from lo xs)) (subst (AllByRecursion Row) (sym (take-append-drop k (spans_from lo xs))) old.rows));
    gaps = tells_take (inner_of start.tree.gapped) start.tree.table h lo k xs old.gaps;
  }

  pub drop_old : (lo mid hi k : ℕ) (xs : List Item) → Fills mid hi (drop k (spans_from lo xs)) → AreOld start h lo xs → AreOld start h mid (drop k xs)
  drop_old lo mid hi k xs fills old =
      let spans : spans_from mid (drop k xs) ≡ drop k (spans_from lo xs) =
      sym (begin_there mid hi (after lo (take k xs)) (drop k xs) (subst (Fills mid hi) (sym (spans-drop k lo xs)) fills)) ∙ spans-drop k lo xs in
      record {
        rows = subst (AllByRecursion Row) (sym spans) (all_back Row (take k (spans_from lo xs)) (drop k (spans_from lo xs)) (subst (AllByRecursion Row) (sym (take-append-drop k (spans_from lo xs))) old.rows));
        gaps = tells_drop (inner_of start.tree.gapped) start.tree.table h lo mid k xs spans old.gaps;
      }

  pub join_old : (lo mid : ℕ) (xs ys : List Item) → spans_from lo (xs ++ ys) ≡ spans_from lo xs ++ spans_from mid ys → AreOld start h lo xs → AreOld start h mid ys → AreOld start h lo (xs ++ ys)
  join_old lo mid xs ys spans one other = record {
    rows = subst (AllByRecursion Row) (sym spans) (all_join Row (spans_from lo xs) (spans_from mid ys) one.rows other.rows);
    gaps = tells_append (inner_of start.tree.gapped) start.tree.table h lo mid xs ys spans one.gaps other.gaps;
  }
