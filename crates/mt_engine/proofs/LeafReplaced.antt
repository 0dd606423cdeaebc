-- A path along which the way to an index goes when its leaf was replaced, as the tree tells it.
use Rattle.mt_engine.proofs.Prelude.{◌≡◌, ◌≢◌, ℕ, suc, ◌+◌, ◌-◌, ◌<◌, ◌≤◌, List, Bool, Some, true, length, sym, ap, ◌∙◌, subst, arith, Kind, Width, finds_room, columns, greatest, Gapped, named_row, slot_column, slots_of, PathStep, step_at, step_in, path_in, row_of, step_of, levels, step, lawful, slot_used, some_root, some_tree, Place, Slot, spans_in, Tree, IsTree, IsRow, Stands, Rooted, word_at, tree_on, IsTreeOf, IsReached, row_most, IsAlong, WasWay}
use Rattle.mt_engine.proofs.NewLeaf.{along_now}
use Rattle.mt_engine.proofs.SameHeight.{levels_same}

module _ (kind : Kind) (room : finds_room kind ≡ true) (was now : Rooted) (place : Place) (path : List PathStep) (index : ℕ) (w : WasWay kind was now place path index) (tree : IsTreeOf now kind) (within : index ≤ greatest now.table.width) (many : 2 ≤ length path) where
  abbrev t : Tree
  t = tree_on true was

  -- its inner rows have gaps
  gapped : (r : Rooted) → IsTreeOf r kind → IsTree (tree_on true r)
  gapped r is = subst (λ (b : Bool). IsTree (tree_on b r)) room is.words

  width : now.table.width ≡ was.table.width
  width = tree.width ∙ sym w.tree.width

  within_then : index ≤ greatest was.table.width
  within_then = subst (λ (v : Width). index ≤ greatest v) width within

  some : was.root ≢ 0
  some = let long = ap length w.way in some_root was index 0 (omega arith)

  stood : (h : ℕ) × Stands t h
  stood = some_tree t (gapped was w.tree) some

  abbrev d : ℕ
  d = length path - 2

  high : stood.0 ≡ suc d
  high = let long = ap length w.way ∙ levels t stood.0 stood.1 index within_then in omega arith

  stands : Stands t (suc d)
  stands = subst (Stands t) high stood.1

  abbrev above : PathStep
  above = step_at path d

  above_is : above ≡ step_of t d index
  above_is = ap (λ (l : List PathStep). step_at l d) w.way

  above_in : above ≡ step_in was.table (row_of t d index) index
  above_in = above_is ∙ step t (suc d) stands index d within_then (omega arith)

  row : IsRow t 1 (row_of t d index)
  row = lawful t (suc d) stands index d 1 within_then (omega arith)

  pub above_slot : above.slot < slots_of now.table.width Gapped
  above_slot =
      let used = slot_used t (suc d) stands index d within_then (omega arith) in
      let most = row_most row.name in
      let low : above.slot < length (spans_in was.table (row_of t d index)) = subst (λ (s : PathStep). s.slot < length (spans_in was.table (row_of t d index))) (sym above_is) used in
      subst (λ (v : Width). above.slot < slots_of v Gapped) (sym width) (omega arith)

  pub goes_along : (leaf : ℕ) → place ≡ Slot above.row (slot_column (slots_of now.table.width Gapped) above.slot) → named_row (word_at now above.row (slot_column (slots_of now.table.width Gapped) above.slot)) ≡ Some leaf → IsAlong path leaf (path_in now.table now.root index)
  goes_along leaf at named =
      let col = slot_column (slots_of now.table.width Gapped) above.slot in
      let root = w.root above.row col at in
      let kept : (r c : ℕ) → IsReached was r → 0 < c → c < columns was.table.width → Slot above.row col ≢ Slot r c → word_at now r c ≡ word_at was r c =
      λ r c reached some_column inside other. w.kept r c reached some_column inside (λ same. other (sym at ∙ same)) in
      let stood' = some_tree (tree_on true now) (gapped now tree) (λ empty. some (sym root ∙ empty)) in
      let same = levels_same true was now (suc d) stood'.0 above.row col stands stood'.1 width root kept in
      subst (λ (l : List PathStep). IsAlong l leaf (path_in now.table now.root index)) (sym w.way)
      (along_now was now d above.row col index stands (subst (Stands (tree_on true now)) same stood'.1) width root within_then kept (ap (λ (s : PathStep). s.row) above_is) (λ i. slots_of (width i) Gapped + (above_is i).slot) leaf named)
