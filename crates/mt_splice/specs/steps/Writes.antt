-- A node that is written again, and the items of a node read.
-- Source: the kernel's lib/maple_tree.c, mab_mas_cp and mas_mab_cp: a node's slots are copied out and written into a new node.
use Rattle.std.specs.Prelude.{◌≡◌, ◌≢◌, ℕ, ◌+◌, ◌<◌, ◌≤◌, false, Some, List, length, slice_index, slice_set}
use Rattle.mt_splice.specs.Prelude.{columns, first_row, Item, RowKind, IsRowNumber, row_in, named_row, parent_at, RiseFrom, row_words, items_at, slot_column, Draft, Live, Table, base_of, column, Sheet, IsPlace, life_of, is_buried, slots_of, gaps_of}
use Rattle.mt_splice.specs.steps.Starts.{with_words}

-- ---- nodes

-- Only a node was written: it is a draft then, and every other node is as before.
pub record OnlyDrafts (s s' : Sheet) (row : ℕ) : Type 0 where
  pub rest : record s' { tree = s.tree; lives = s.lives } ≡ s
  pub tree : s'.tree ≡ with_words s.tree s'.tree.table.words
  pub size : length s'.tree.table.words ≡ length s.tree.table.words
  pub lives : s'.lives ≡ slice_set s.lives row Draft
  pub others : (r c : ℕ) → r ≢ row → c < columns s.tree.table.width → column s'.tree.table r c ≡ column s.tree.table r c

-- the parent word of a node that has no parent yet: the root's
abbrev pub no_parent : ℕ
no_parent = 1

-- the words of a new node of this kind with these items
abbrev pub new_words : Table → RowKind → List Item → List ℕ
new_words t kind items = row_words (columns t.width) (slots_of t.width kind) (gaps_of t.width kind) no_parent items

-- All words of a node were written: those of a new node with these items.
pub record IsRowDrafted (s s' : Sheet) (row : ℕ) (kind : RowKind) (items : List Item) : Type 0 where
  pub only : OnlyDrafts s s' row
  pub own : (c : ℕ) → c < columns s.tree.table.width → column s'.tree.table row c ≡ slice_index (new_words s.tree.table kind items) c

-- the node's columns are the words of a new node with these items
pub record IsNewRow (t : Table) (kind : RowKind) (row : ℕ) (items : List Item) : Type 0 where
  pub number : IsRowNumber row
  pub some : 1 ≤ length items
  pub fit : length items ≤ slots_of t.width kind
  pub rise : RiseFrom 0 items
  pub own : (c : ℕ) → c < columns t.width → column t row c ≡ slice_index (new_words t kind items) c

-- ---- items

-- the items of a node that covers the indexes up to `max`
abbrev pub items_of_row : Table → RowKind → ℕ → ℕ → List Item
items_of_row t kind row max = items_at (slots_of t.width kind) (gaps_of t.width kind) t.words (base_of t row) max

-- ---- the parent words of a node's children

abbrev pub child_word : Table → RowKind → ℕ → ℕ → ℕ
child_word t kind row slot = column t row (slot_column (slots_of t.width kind) slot)

-- the node that the word in a slot names
abbrev pub child_row : Table → RowKind → ℕ → ℕ → ℕ
child_row t kind row slot = row_in (child_word t kind row slot)

-- a child whose parent word may be written
pub record IsChild (s : Sheet) (kind : RowKind) (row slot : ℕ) : Type 0 where
  pub named : named_row (child_word s.tree.table kind row slot) ≡ Some (child_row s.tree.table kind row slot)
  pub at : IsPlace s.tree (child_row s.tree.table kind row slot) 0
  pub live : life_of s.lives (child_row s.tree.table kind row slot) ≡ Live
  pub kept : is_buried s.buried (child_row s.tree.table kind row slot) ≡ false
  pub other : child_row s.tree.table kind row slot ≢ row

pub record AreChildren (s : Sheet) (kind : RowKind) (row count : ℕ) : Type 0 where
  pub first : first_row ≤ row
  pub last : row < first_row + s.tree.rows
  pub slots : count ≤ slots_of s.tree.table.width kind
  pub each : (slot : ℕ) → slot < count → IsChild s kind row slot
  pub apart : (i j : ℕ) → i < count → j < count → child_row s.tree.table kind row i ≡ child_row s.tree.table kind row j → i ≡ j

-- the parent words of the children in the first slots name this node and the slot, and every other word is as before
pub record AreTended (s s' : Sheet) (kind : RowKind) (row count : ℕ) : Type 0 where
  pub rest : record s' { tree = s.tree; reads = s.reads } ≡ s
  pub tree : s'.tree ≡ with_words s.tree s'.tree.table.words
  pub size : length s'.tree.table.words ≡ length s.tree.table.words
  pub children : (slot : ℕ) → slot < count → column s'.tree.table (child_row s.tree.table kind row slot) 0 ≡ parent_at row slot
  pub others : (r c : ℕ) → c < columns s.tree.table.width → (c ≡ 0 → (slot : ℕ) → slot < count → child_row s.tree.table kind row slot ≢ r) → column s'.tree.table r c ≡ column s.tree.table r c
