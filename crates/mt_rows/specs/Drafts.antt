-- Columns of a draft that are written at once. Source: this project's own.
use Rattle.std.specs.Prelude.{◌≡◌, ℕ, ◌+◌, List, slice_set}
use Rattle.mt_rows.specs.declared.rows.Life.TheVariants.{Draft}
use Rattle.mt_rows.specs.Spans.{base_of}
use Rattle.mt_rows.specs.Sheet.{Sheet}
use Rattle.mt_rows.specs.Words.{ArePut}

-- the columns of a node from `col` on have these words, and each other word is as before; the node is a draft (not yet
-- published), and nothing else has changed
pub record AreDrafted (row col : ℕ) (words : List ℕ) (s s' : Sheet) : Type 0 where
  pub rest : s' ≡ record s { tree = record s.tree { table = record s.tree.table { words = s'.tree.table.words } }; lives = slice_set s.lives row Draft }
  pub put : ArePut (base_of s.tree.table row + col) words s.tree.table.words s'.tree.table.words
