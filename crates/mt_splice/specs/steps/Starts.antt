-- What a replacement begins with, and its tree by other words.
-- Source: this project's own; the kernel's lib/maple_tree.c, struct ma_wr_state, which holds what a store begins with.
use Rattle.std.specs.Prelude.{ℕ, Bool, List}
use Rattle.mt_splice.specs.Prelude.{Range, columns, Span, Table, level, times, SameColumns, Tree, root_of, Rooted, Sheet}

-- the tree as it was, its height, the map that is to be, and the first and the last index of what is to change
pub record Start : Type 0 where
  pub tree : Tree
  pub height : ℕ
  pub map : List Range
  pub first : ℕ
  pub last : ℕ

-- ---- a tree with other words

abbrev pub table_with : Table → List ℕ → Table
table_with t words = record { width = t.width; words = words }

abbrev pub tree_with : Tree → List ℕ → Tree
tree_with t words = record { rows = t.rows; gapped = t.gapped; table = table_with t.table words; root = t.root }

abbrev pub with_words : Rooted → List ℕ → Rooted
with_words t words = record { rows = t.rows; table = table_with t.table words; root = t.root }

-- the tree by the words now
abbrev pub now : Start → Sheet → Tree
now start s = tree_with start.tree s.tree.table.words

-- the rows of a level from the left, the root's level being 0
abbrev pub rows_at : Tree → ℕ → List Span
rows_at t depth = level t.table depth (root_of t)

-- how many rows of a tree of this height pass a test
abbrev pub times_in : (ℕ → Span → Bool) → Tree → ℕ → ℕ
times_in p t h = times p t.table h (root_of t)

-- a row has the words that it had, but for its parent word
abbrev pub KeepsRowWords : Tree → List ℕ → List ℕ → ℕ → Type 0
KeepsRowWords t words words' row = SameColumns (table_with t.table words) (table_with t.table words') (columns t.table.width) row
