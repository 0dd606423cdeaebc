-- A copy of a tree, node by node: it has the same width and the same words, except for the numbers of its nodes.
-- Source: the kernel's lib/maple_tree.c, __mt_dup, which copies each node and then writes the new addresses into it.
use Rattle.std.specs.Prelude.{◌≡◌, ◌↔◌, ℕ, ◌*◌, ◌%◌, ◌<◌, ◌≤◌, false, Some, [], length, map}
use Rattle.std.specs.List.{range_with_len}
use Rattle.mt_dup.specs.Prelude.{columns, first_row, Book, IsBook, IsOut, RowKind, Leaf, Inner, Gapped, Span, slot_column, row_in, named_kind, parent_at, slots_of, Table, column, reached_in, new_sheet, is_reached, IsReached, StandsAt, Rooted, Sheet, life_of, New, Draft}

-- a name or a parent word of the copy: the node's new number, and the old low byte, which holds a kind or a slot
abbrev pub with_new_row : (ℕ → ℕ) → ℕ → ℕ
with_new_row number word = parent_at (number (row_in word)) (word % 256)

-- what the copy has in place of a word in a slot: a leaf has entries there, and an inner node the names of its children
abbrev pub slot_renamed : (ℕ → ℕ) → RowKind → ℕ → ℕ
slot_renamed number Leaf word = word
slot_renamed number Inner word = with_new_row number word
slot_renamed number Gapped word = with_new_row number word

-- a node of the copy, which is of the same width: its parent word and the names in its slots are the copy's, and all its other
-- columns are equal
pub record IsRowCopy (number : ℕ → ℕ) (t t' : Table) (kind : RowKind) (row : ℕ) : Type 0 where
  pub width : t'.width ≡ t.width
  pub parent : column t' (number row) 0 ≡ with_new_row number (column t row 0)
  pub pivots : (c : ℕ) → 0 < c → c < slots_of t.width kind → column t' (number row) c ≡ column t row c
  pub slots : (i : ℕ) → i < slots_of t.width kind → column t' (number row) (slot_column (slots_of t.width kind) i) ≡ slot_renamed number kind (column t row (slot_column (slots_of t.width kind) i))
  pub behind : (c : ℕ) → 2 * slots_of t.width kind ≤ c → c < columns t.width → column t' (number row) c ≡ column t row c

-- a copy of a tree, of the same width: each node that is reached has a number of its own in the copy, and 0, which is no node,
-- stays 0
pub record IsCopy (t t' : Rooted) : Type 0 where
  pub width : t'.table.width ≡ t.table.width
  pub number : ℕ → ℕ
  pub none : number 0 ≡ 0
  pub rows : reached_in t'.table t'.root ≡ map number (reached_in t.table t.root)
  pub once : (row other : ℕ) → IsReached t row → IsReached t other → number row ≡ number other → row ≡ other
  pub root : t'.root ≡ with_new_row number t.root
  pub words : (h : ℕ) (x : Span) (kind : RowKind) → StandsAt t h x → named_kind x.word ≡ Some kind → IsRowCopy number t.table t'.table kind (row_in x.word)

-- the nodes that are reached are the first ones, numbered in the order of the walk: each node before its children, children
-- from the left
abbrev pub AreInOrder : Rooted → Type 0
AreInOrder t = reached_in t.table t.root ≡ range_with_len first_row (length (reached_in t.table t.root))

-- new nodes of the copy's width, except for those that the root word reaches, which are drafts (not yet published); no call was
-- begun, and their own root word is 0
pub record IsNewBut (t' : Rooted) (rows : ℕ) (s : Sheet) : Type 0 where
  pub rest : let new = new_sheet t'.table.width rows in s ≡ record new { tree = record new.tree { table = record new.tree.table { words = s.tree.table.words } }; lives = s.lives }
  pub zeros : (row c : ℕ) → is_reached t' row ≡ false → c < columns s.tree.table.width → column s.tree.table row c ≡ 0
  pub new : (row : ℕ) → is_reached t' row ≡ false → life_of s.lives row ≡ New
  pub drafts : (row : ℕ) → IsReached t' row → life_of s.lives row ≡ Draft

-- a book whose live nodes are just those that are reached, and which holds none
pub record IsBookOfCopy (t' : Rooted) (book : Book) : Type 0 where
  pub whole : IsBook book
  pub rows : book.rows ≡ t'.rows
  pub live : (row : ℕ) → IsOut book row ↔ IsReached t' row
  pub held : book.held ≡ []
