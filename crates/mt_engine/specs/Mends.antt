-- The gap words of a tree after a replacement of nodes: which may be wrong, and what is left once they are mended.
-- Source: the kernel's lib/maple_tree.c, mas_update_gap, which goes up from a leaf that has changed.
use Rattle.std.specs.Prelude.{◌≡◌, ◌≢◌, ℕ, ◌-◌, ◌<◌, ◌≤◌, Bool, List, length}
use Rattle.mt_engine.specs.Prelude.{Kind, Width, columns, greatest, Gapped, slot_column, slots_of, PathStep, path_in, step_at, Place, Slot, HasGapsBut, tree_as, IsTreeOf, IsLawfulOf, IsReached, LiveAreReached, NoneBuried, map_by, is_reached, Rooted, Sheet, word_at, height_in, HasParents, OnlyWords}

-- The words are well-formed, except that the gap words of slots on the way to an index may be wrong.
pub record MayMendAt (kind : Kind) (s : Sheet) (index : ℕ) : Type 0 where
  pub within : index ≤ greatest s.tree.table.width
  pub tree : IsTreeOf s.tree kind
  pub parents : HasParents (tree_as kind s.tree)
  pub is_new : ℕ → Bool
  pub gaps : HasGapsBut is_new index (tree_as kind s.tree)
  pub live : LiveAreReached s.tree s.lives
  pub none_buried : NoneBuried s.tree.rows s.buried

-- The path led to the index in the tree as it was before one word was published at the place; the nodes that it had keep all
-- other words but their parent words.
pub record WasWay (kind : Kind) (was now : Rooted) (place : Place) (path : List PathStep) (index : ℕ) : Type 0 where
  pub tree : IsTreeOf was kind
  pub rows : now.rows ≡ was.rows
  pub way : path ≡ path_in was.table was.root index
  pub root : (row col : ℕ) → place ≡ Slot row col → now.root ≡ was.root
  pub kept : (row col : ℕ) → IsReached was row → 0 < col → col < columns was.table.width → place ≢ Slot row col → word_at now row col ≡ word_at was row col

-- The place is the slot in which a path enters its leaf, in a node with gaps.
pub record IsPlaceOfLeaf (width : Width) (place : Place) (path : List PathStep) : Type 0 where
  pub many : 2 ≤ length path
  pub at : place ≡ Slot (step_at path (length path - 2)).row (slot_column (slots_of width Gapped) (step_at path (length path - 2)).slot)

-- They are well-formed, and represent the same map by the same nodes. Only words of nodes have changed.
pub record IsMendedAt (kind : Kind) (s s' : Sheet) : Type 0 where
  pub rest : OnlyWords s s'
  pub lawful : IsLawfulOf s'.tree kind
  pub map : map_by s'.tree ≡ map_by s.tree
  pub height : height_in s'.tree.table s'.tree.root ≡ height_in s.tree.table s.tree.root
  pub reached : (row : ℕ) → is_reached s'.tree row ≡ is_reached s.tree row
