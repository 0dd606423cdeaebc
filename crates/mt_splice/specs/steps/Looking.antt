-- The nodes of a level looked at while others are written beside them: what is asked, and what is gathered one level up.
-- Source: the kernel's lib/maple_tree.c, mas_spanning_rebalance, which reads the old nodes while it builds the new ones.
use Rattle.std.specs.Prelude.{◌≡◌, ℕ, suc, ◌+◌, ◌≤◌, List, ◌++◌, length, take, drop}
use Rattle.mt_splice.specs.Prelude.{Kind, Item, RowKind, Span, row_in, top_of, kind_on, IsTreeOf, Rooted, PathStep, path_in, step_at}
use Rattle.mt_splice.specs.steps.Widening.{IsWindow, MayWiden}
use Rattle.mt_splice.specs.steps.Windows.{row_at}
use Rattle.mt_splice.specs.steps.Starts.{Start}
use Rattle.mt_splice.specs.steps.Writes.{items_of_row}

-- nodes that hold the tree as it was, beside others
pub record IsNowOf (start : Start) (t : Rooted) : Type 0 where
  pub rows : t.rows ≡ start.tree.rows
  pub width : t.table.width ≡ start.tree.table.width
  pub tree : (k : Kind) × IsTreeOf t k
  pub paths : (i : ℕ) → i ≤ top_of start.tree → path_in t.table t.root i ≡ path_in start.tree.table start.tree.root i
  pub items : (i d h : ℕ) → i ≤ top_of start.tree → start.height ≡ d + h → (kind : RowKind) (max : ℕ) → items_of_row t.table kind (row_in (row_at start.tree d i).word) max ≡ items_of_row start.tree.table kind (row_in (row_at start.tree d i).word) max

-- a level's items are gathered
pub record MayLook (start : Start) (t : Rooted) (kind : RowKind) (left right : List PathStep) (depth : ℕ) (items : List Item) : Type 0 where
  pub below : List Span
  pub height : ℕ
  pub is_now : IsNowOf start t
  pub of_kind : kind ≡ kind_on start.tree.gapped height
  pub may : MayWiden start below left right depth height items

-- new items between what comes before the left path's slot and what comes after the right path's
abbrev pub items_above : Rooted → RowKind → ℕ → List PathStep → List PathStep → List Item → List Item
items_above t kind depth left right new =
    let l = step_at left depth in let r = step_at right depth in
    take l.slot (items_of_row t.table kind l.row l.max) ++ (new ++ drop (r.slot + 1) (items_of_row t.table kind r.row r.max))

-- the nodes of the level below are known, and are three at most
pub record MayGather (start : Start) (t : Rooted) (kind : RowKind) (left right : List PathStep) (depth : ℕ) (new : List Item) : Type 0 where
  pub below : List Span
  pub height : ℕ
  pub items : List Item
  pub is_now : IsNowOf start t
  pub of_kind : kind ≡ kind_on start.tree.gapped (suc height)
  pub window : IsWindow start below left right (suc depth) height items
  pub few : length new ≤ 3
