-- A tree by its rows, words and root word, and the word in the slot of a path's row.
use Rattle.mt_splice.proofs.Prelude.{ℕ, ◌+◌, slice_set, Tree, PathStep, slot_column, RowKind, slots_of, base_of, tree_with, Rooted}

-- the rows, the words and the root word of a tree
abbrev pub words_of : Tree → Rooted
words_of t = record { rows = t.rows; table = t.table; root = t.root }

-- the tree after a word is stored in the slot of a path's row, which is of this kind
abbrev pub with_step : Tree → RowKind → PathStep → ℕ → Tree
with_step t kind step word = tree_with t (slice_set t.table.words (base_of t.table step.row + slot_column (slots_of t.table.width kind) step.slot) word)

abbrev pub column_of : Tree → RowKind → PathStep → ℕ
column_of t kind step = slot_column (slots_of t.table.width kind) step.slot
