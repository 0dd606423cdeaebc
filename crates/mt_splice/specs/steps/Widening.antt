-- The items of a level's run, gathered; and then with those of the node beside it, if they are too few for a node or a leaf
-- would end with a hole.
-- Source: the kernel's lib/maple_tree.c, mas_rebalance, which takes the right neighbour first.
use Rattle.std.specs.Prelude.{◌≡◌, ◌⊎◌, ℕ, suc, ◌+◌, ◌-◌, ◌<◌, ◌≤◌, ◌||◌, Bool, true, false, List, length}
use Rattle.mt_splice.specs.Prelude.{Width, greatest, Item, RowKind, Span, spans_from, EndsFull, top_of, kind_on, Rooted, PathStep, path_in, step_at}
use Rattle.mt_splice.specs.steps.Runs.{most_items, most_before_hole}
use Rattle.mt_splice.specs.steps.TakingIn.{short_run, holed_run, beside_items}
use Rattle.mt_splice.specs.steps.Starts.{Start}
use Rattle.mt_splice.specs.steps.Writes.{items_of_row}
use Rattle.mt_splice.specs.steps.Windows.{low_of, high_of, Gathered}

abbrev pub wants_row : Width → RowKind → List Item → Bool
wants_row width kind items = short_run width kind items || holed_run kind items

-- ---- what is taken in

-- none: no more are needed; or no node comes after the items, and they are enough or no node comes before them
pub record IsAlone (t : Rooted) (kind : RowKind) (depth : ℕ) (left right : List PathStep) (items : List Item) (left' right' : List PathStep) (items' : List Item) : Type 0 where
  pub enough : (wants_row t.table.width kind items ≡ false)
      ⊎ (((step_at right depth).max ≡ greatest t.table.width) × ((short_run t.table.width kind items ≡ false) ⊎ ((step_at left depth).min ≡ 0)))
  pub same : (left' ≡ left) × (right' ≡ right) × (items' ≡ items)

-- the node after
pub record IsWithBehind (t : Rooted) (kind : RowKind) (depth : ℕ) (left right : List PathStep) (items : List Item) (left' right' : List PathStep) (items' : List Item) : Type 0 where
  pub wanted : wants_row t.table.width kind items ≡ true
  pub some : (step_at right depth).max < greatest t.table.width
  pub is_left : left' ≡ left
  pub is_right : right' ≡ path_in t.table t.root ((step_at right depth).max + 1)
  pub all : items' ≡ beside_items kind items (items_of_row t.table kind (step_at right' depth).row (step_at right' depth).max)

-- the node before, if none comes after
pub record IsWithBefore (t : Rooted) (kind : RowKind) (depth : ℕ) (left right : List PathStep) (items : List Item) (left' right' : List PathStep) (items' : List Item) : Type 0 where
  pub short : short_run t.table.width kind items ≡ true
  pub last : (step_at right depth).max ≡ greatest t.table.width
  pub some : 0 < (step_at left depth).min
  pub is_left : left' ≡ path_in t.table t.root ((step_at left depth).min - 1)
  pub is_right : right' ≡ right
  pub all : items' ≡ beside_items kind (items_of_row t.table kind (step_at left' depth).row (step_at left' depth).max) items

abbrev pub IsWidened : Rooted → RowKind → ℕ → List PathStep → List PathStep → List Item → List PathStep → List PathStep → List Item → Type 0
IsWidened t kind depth left right items left' right' items' =
    IsAlone t kind depth left right items left' right' items' ⊎ (IsWithBehind t kind depth left right items left' right' items' ⊎ IsWithBefore t kind depth left right items left' right' items')

-- ---- before and after

-- two paths lead to the first and to the last node of a window, and the items that will be in its place are gathered
pub record IsWindow (start : Start) (below : List Span) (left right : List PathStep) (d h : ℕ) (items : List Item) : Type 0 where
  pub from : ℕ
  pub to : ℕ
  pub is_left : left ≡ path_in start.tree.table start.tree.root from
  pub is_right : right ≡ path_in start.tree.table start.tree.root to
  pub gathered : Gathered start below from to d h (spans_from (low_of start.tree d from) items)

-- The items are few enough to take in a node beside them, fewer if a leaf may end with a hole. In inner nodes they are at least
-- two if they cover every index.
pub record MayWiden (start : Start) (below : List Span) (left right : List PathStep) (d h : ℕ) (items : List Item) : Type 0 where
  pub window : IsWindow start below left right d h items
  pub few : length items ≤ most_items start.tree.table.width (kind_on start.tree.gapped h)
  pub ends : h ≡ 0 → high_of start.tree d window.to ≤ top_of start.tree → (length items ≤ most_before_hole start.tree.table.width) ⊎ EndsFull (spans_from (low_of start.tree d window.from) items)
  pub two : (k : ℕ) → h ≡ suc k → low_of start.tree d window.from ≡ 0 → high_of start.tree d window.to ≡ top_of start.tree + 1 → 2 ≤ length items
