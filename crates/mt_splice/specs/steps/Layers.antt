-- New nodes on each level in the place of a window's, written beside the tree's nodes, which keep their words.
-- Source: the kernel's lib/maple_tree.c, mas_wmb_replace, which puts a subtree of new nodes in the place of old ones.
use Rattle.std.specs.Prelude.{◌≡◌, ℕ, ◌+◌, ◌<◌, ◌≤◌, Bool, true, false, List, [], ◌∷◌, take, drop, ◌-◌}
use Rattle.std.specs.List.{AllByRecursion}
use Rattle.mt_splice.specs.Prelude.{first_row, Item, Span, RowKind, end_of, row_in, name_at, Fills, map_of, Levels, times, Tree, IsRow, Stands, top_of}
use Rattle.mt_splice.specs.Fewest.{FewestBelow}
use Rattle.mt_splice.specs.steps.Told.{told_gap}
use Rattle.mt_splice.specs.steps.Writes.{IsNewRow}
use Rattle.mt_splice.specs.steps.Starts.{Start, tree_with, rows_at, KeepsRowWords}

-- what is known of each node of the tree as it was: it keeps its words, and is not new
pub record IsOld (start : Start) (words : List ℕ) (is_new : ℕ → Bool) (h : ℕ) (x : Span) : Type 0 where
  pub row : IsRow start.tree h x
  pub keeps : KeepsRowWords start.tree start.tree.table.words words (row_in x.word)
  pub old : is_new (row_in x.word) ≡ false

-- From a depth down, the nodes of the old tree are unchanged beside what was written.
pub record Beside (start : Start) (words : List ℕ) (is_new : ℕ → Bool) (top : ℕ) : Type 0 where
  pub stands : Stands start.tree start.height
  pub rows : (d h : ℕ) → start.height ≡ d + h → top ≤ d → AllByRecursion (IsOld start words is_new h) (rows_at start.tree d)

-- By the words, these nodes of a height represent the map instead of the tree's nodes of a depth. The new ones on each level
-- are the fewest. What is reached from either differs by exactly the nodes of the windows and the new nodes, counted by how
-- many of them satisfy a test.
pub record Stand (start : Start) (words : List ℕ) (is_new : ℕ → Bool) (taken gone : (ℕ → Span → Bool) → ℕ) (d h : ℕ) (ys : List Span) : Type 0 where
  pub fills : Fills 0 (top_of start.tree + 1) ys
  pub rows : Levels (IsRow (tree_with start.tree words)) (tree_with start.tree words).table h ys
  pub ranges : map_of (tree_with start.tree words).table h ys ≡ start.map
  pub fewest : FewestBelow is_new start.tree.gapped (tree_with start.tree words).table h ys
  pub count : (p : ℕ → Span → Bool) → times p start.tree.table h (rows_at start.tree d) + taken p ≡ times p (tree_with start.tree words).table h ys + gone p
  pub were : (p : ℕ → Span → Bool) → gone p ≤ times p start.tree.table h (rows_at start.tree d)

-- ---- nodes by their parts

-- the items `from` to, but without, `to`
abbrev pub part_of : List Item → ℕ → ℕ → List Item
part_of items from to = take (to - from) (drop from items)

-- the item that a node is one level up, where the nodes above are of the kind `above`
abbrev pub head : RowKind → RowKind → ℕ → List Item → ℕ → Item
head above kind first items row = record { last = end_of 0 items; word = name_at row kind; gap = told_gap above kind first items }

-- so of nodes that end at these places, and have these numbers
abbrev pub heads : RowKind → RowKind → ℕ → List Item → ℕ → List ℕ → List ℕ → List Item
heads above kind first items from [] rows = []
heads above kind first items from (to ∷ ends) [] = []
heads above kind first items from (to ∷ ends) (row ∷ rows) =
    head above kind first (part_of items from to) row ∷ heads above kind (end_of 0 (part_of items from to) + 1) items to ends rows

-- each node holds its part, is new, and is one of the tree's nodes
abbrev pub AreHeld : Tree → (ℕ → Bool) → RowKind → List Item → ℕ → List ℕ → List ℕ → Type 0
AreHeld t is_new kind items from [] rows = Unit {0}
AreHeld t is_new kind items from (to ∷ ends) [] = Unit {0}
AreHeld t is_new kind items from (to ∷ ends) (row ∷ rows) = IsNewRow t.table kind row (part_of items from to) × (is_new row ≡ true) × (row < first_row + t.rows) × AreHeld t is_new kind items to ends rows
