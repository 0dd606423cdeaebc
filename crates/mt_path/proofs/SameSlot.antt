-- The indexes of what stands in one slot of a leaf have the same way. For the proofs of the crates above, too.
use Rattle.mt_path.proofs.Prelude.{◌≡◌, ◌≢◌, ℕ, ◌+◌, ◌-◌, ◌<◌, ◌≤◌, List, Option, length, refl, sym, ap, ◌∙◌, subst, inl, inr, arith, cases_lt, ext_get_or, Kind, greatest, Span, Fills, spans_by, spans_in, RowKind, Tree, IsTree, Stands, top_of, IsTreeOf, tree_as, Rooted, PathStep, leaf_spans, leaf_in, last_step, IsStepOfLeaf, slot_for, span_at, step_in, step_at, below, path_in, no_step}
use Rattle.mt_path.proofs.Places.{At, slot_is, at_within}
use Rattle.mt_path.proofs.TreePaths.{row_of, step_of, levels, step, lawful, holds, inside_agree}
use Rattle.mt_path.proofs.LeafSteps.{step_to}
use Rattle.mt_path.proofs.Ways.{some_root}

module _ (t : Tree) (h : ℕ) (stands : Stands t h) (index : ℕ) (within : index ≤ top_of t) where
  abbrev row : Span
  row = row_of t h index

  abbrev pub x : Span
  x = below t.table row index

  pub at : At row.first (row.last + 1) (spans_in t.table row) index x
  at = holds t h stands index h within (omega arith)

  end_is : last_step (path_in t.table t.root index) ≡ step_in t.table row index
  end_is =
      let many = levels t h stands index within in
      let last : length (path_in t.table t.root index) - 1 ≡ h = omega arith in
      ap (step_at (path_in t.table t.root index)) last ∙ step t h stands index h within (omega arith)

  pub slot_holds : span_at (leaf_spans t.table (last_step (path_in t.table t.root index))) (last_step (path_in t.table t.root index)).slot ≡ x
  slot_holds =
      ap (λ (s : PathStep). span_at (leaf_spans t.table s) s.slot) end_is
      ∙ ap (λ (k : Option RowKind). span_at (spans_by t.table k row) (slot_for (spans_in t.table row) index)) (sym (lawful t h stands index h 0 within (omega arith)).name.named)

  module _ (j : ℕ) (inside : j ≤ top_of t) (begins : x.first ≤ j) (ends : j ≤ x.last) where
    within_row : (row.first ≤ x.first) × (x.last < row.last + 1)
    within_row = at_within row.first (row.last + 1) (spans_in t.table row) index x at

    agree : (row_of t h j ≡ row) × ((e : ℕ) → e < h → step_of t e j ≡ step_of t e index)
    agree = let low = within_row.0 in let high = within_row.1 in inside_agree t h stands index j h within (omega arith) (omega arith) (omega arith)

    same_slot : slot_for (spans_in t.table row) j ≡ slot_for (spans_in t.table row) index
    same_slot =
        let fills = subst (Fills row.first (row.last + 1)) at.parts (lawful t h stands index h 0 within (omega arith)).pivots.fills in
        ap (λ (l : List Span). slot_for l j) at.parts ∙ (slot_is row.first (row.last + 1) at.front x at.back j fills begins ends ∙ at.slot)

    same_leaf : step_of t h j ≡ step_of t h index
    same_leaf =
        step t h stands j h inside (omega arith)
        ∙ (ap (λ (y : Span). step_in t.table y j) agree.0
        ∙ (ap (λ (n : ℕ). record (step_in t.table row index) { slot = n }) same_slot ∙ sym (step t h stands index h within (omega arith))))

    same_step : (e : ℕ) → e < h + 1 → step_of t e j ≡ step_of t e index
    same_step e few = elim (cases_lt e h) [
      | inl above ↦ agree.1 e above
      | inr last ↦ (let is : e ≡ h = omega arith in ap (λ (d : ℕ). step_of t d j) is ∙ (same_leaf ∙ ap (λ (d : ℕ). step_of t d index) (sym is)))
    ]

    pub same_path : path_in t.table t.root j ≡ path_in t.table t.root index
    same_path =
        let many = levels t h stands j inside in
        let all = levels t h stands index within in
        ext_get_or no_step (path_in t.table t.root j) (path_in t.table t.root index) (many ∙ sym all) (λ e few. same_step e (omega arith))

-- ---- as the tree is told

module _ (t : Rooted) (kind : Kind) (tree : IsTreeOf t kind) (path : List PathStep) (index : ℕ) (within : index ≤ greatest t.table.width) (is : path ≡ path_in t.table t.root index) where
  some : 0 < length path → t.root ≢ 0
  some few = some_root t index 0 (subst (λ (l : List PathStep). 0 < length l) is few)

  -- at its end a path has a leaf, and one of its slots
  pub last_is_leaf : 0 < length path → IsStepOfLeaf t (last_step path)
  last_is_leaf few =
      subst (IsStepOfLeaf t) (sym (ap last_step is))
      (record { some = some few; index = index; within = within; leaf = refl; used = (step_to t kind index tree (some few) within).used })

  pub stays : 0 < length path → (j : ℕ) → j ≤ greatest t.table.width → index ≤ j → j ≤ (span_at (leaf_spans t.table (last_step path)) (last_step path).slot).last → path ≡ path_in t.table t.root j
  stays few j inside behind ends = is ∙ sym (by tree.words)
    where
      by : IsTree (tree_as kind t) → path_in t.table t.root j ≡ path_in t.table t.root index
      by (inl empty) = absurd (some few empty)
      by (inr (h, stands)) =
          let held = slot_holds (tree_as kind t) h stands index within in
          let low : j ≤ (span_at (leaf_spans t.table (leaf_in t index)) (leaf_in t index).slot).last = subst (λ (l : List PathStep). j ≤ (span_at (leaf_spans t.table (last_step l)) (last_step l).slot).last) is ends in
          same_path (tree_as kind t) h stands index within j inside (let from = (at (tree_as kind t) h stands index within).from in omega arith) (subst (λ (y : Span). j ≤ y.last) held low)
