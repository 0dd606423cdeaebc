-- What is written in one node of a copy.
-- Source: this project's own.
use Rattle.std.specs.Prelude.{◌≡◌, ◌≢◌, ℕ, ◌<◌}
use Rattle.mt_dup.specs.Prelude.{columns, Table, column}
use Rattle.mt_dup.specs.declared.columns.Pair.{Pair}

-- the word is in this column of the node, and the node's other columns are as before
pub record IsWrittenAt (row col word : ℕ) (t t' : Table) : Type 0 where
  pub here : column t' row col ≡ word
  pub others : (c : ℕ) → c < columns t.width → c ≢ col → column t' row c ≡ column t row c

-- a node of the copy, in which the names of its children are still those of the tree
pub record HasOwn (parent : ℕ) (pair : Pair) (t d : Table) : Type 0 where
  pub first : column d pair.to 0 ≡ parent
  pub others : (c : ℕ) → 0 < c → c < columns t.width → column d pair.to c ≡ column t pair.row c
