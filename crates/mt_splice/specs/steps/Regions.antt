-- The leaves at the ends of a store, and their items.
-- Source: the kernel's lib/maple_tree.c, mas_wr_spanning_store, which takes the two end nodes of a store.
use Rattle.std.specs.Prelude.{◌≡◌, ◌≢◌, ◌≤◌, ℕ, List}
use Rattle.mt_splice.specs.Prelude.{Kind, greatest, Item, Leaf, Table, Rooted, IsTreeOf, PathStep, path_in, last_step}
use Rattle.mt_splice.specs.steps.Writes.{items_of_row}

-- the paths to the ends of a store
pub record AreEnds (kind : Kind) (t : Rooted) (left right : List PathStep) (first last : ℕ) : Type 0 where
  pub tree : IsTreeOf t kind
  pub order : first ≤ last
  pub within : last ≤ greatest t.table.width
  pub left_path : left ≡ path_in t.table t.root first
  pub right_path : right ≡ path_in t.table t.root last

-- the leaf at the end of the path to an index, with the slot there
pub record IsLeafStep (t : Rooted) (leaf : PathStep) (index : ℕ) : Type 0 where
  pub kind : Kind
  pub tree : IsTreeOf t kind
  pub some : t.root ≢ 0
  pub within : index ≤ greatest t.table.width
  pub is : leaf ≡ last_step (path_in t.table t.root index)

-- the items of a leaf
abbrev pub leaf_items : Table → PathStep → List Item
leaf_items t s = items_of_row t Leaf s.row s.max
