-- Names of nodes (encoded node pointers), parent words and the dead mark: how a tree's words lead from node to node.
-- Source: the kernel's include/linux/maple_tree.h and lib/maple_tree.c, node types and encoded nodes of 256 bytes.
use Rattle.std.specs.Prelude.{◌≡◌, ℕ, Bool, Option, Some, None, ◌+◌, ◌*◌, ◌/◌, ◌%◌, ◌<◌, ◌≤◌, ◌==◌, ◌&&◌, nat_le, nat_lt, is_some, if◌then◌else◌}
use Rattle.mt_layout.specs.Prelude.{most_rows, first_row}
use Rattle.mt_layout.specs.declared.names.RowKind.{RowKind}
use Rattle.mt_layout.specs.declared.names.RowKind.TheVariants as kinds

-- nodes are numbered from `first_row` on, at most `most_rows` of them
abbrev pub is_row : ℕ → Bool
is_row row = nat_le first_row row && nat_lt row (first_row + most_rows)

abbrev pub IsRowNumber : ℕ → Type 0
IsRowNumber row = (first_row ≤ row) × (row < first_row + most_rows)

abbrev pub kind_number : RowKind → ℕ
kind_number kinds.Leaf = 1
kind_number kinds.Inner = 2
kind_number kinds.Gapped = 3

-- the name of a node: its address, with its kind and a mark in the low byte
abbrev pub name_at : ℕ → RowKind → ℕ
name_at row kind = row * 256 + (8 * kind_number kind + 4)

-- the node and the kind that a word names, as its parts say
abbrev pub row_in : ℕ → ℕ
row_in word = word / 256

abbrev pub kind_in : ℕ → Option RowKind
kind_in word = if word % 256 == 12 then Some kinds.Leaf else (if word % 256 == 20 then Some kinds.Inner else (if word % 256 == 28 then Some kinds.Gapped else None))

-- the kind of the node that a word names, and none if the word is no name
abbrev pub named_kind : ℕ → Option RowKind
named_kind word = if is_row (row_in word) then kind_in word else None

-- the node that a word names, and none if the word is no name
abbrev pub named_row : ℕ → Option ℕ
named_row word = if is_some (named_kind word) then Some (row_in word) else None

-- the word is the name of this node as one of this kind
abbrev pub Names : ℕ → ℕ → RowKind → Type 0
Names word row kind = IsRowNumber row × (word ≡ name_at row kind)

-- the parent word of a node whose parent has it in this slot
abbrev pub parent_at : ℕ → ℕ → ℕ
parent_at row slot = row * 256 + slot

-- a node whose parent word is its own address is dead
abbrev pub dead_mark : ℕ → ℕ
dead_mark row = row * 256
