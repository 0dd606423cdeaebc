-- A table of nodes that is filled from its first node on, and the book of it.
-- Source: this project's own.
use Rattle.std.specs.Prelude.{◌≡◌, ◌⊎◌, ℕ, zero, suc, ◌+◌, ◌-◌, ◌<◌, ◌≤◌, List, [], ◌∷◌, length}
use Rattle.mt_dup.specs.Prelude.{columns, first_row, Book, New, Draft, column, Sheet, life_of}

-- `n` nodes from `low` on, the last of them first
abbrev pub rows_above : ℕ → ℕ → List ℕ
rows_above low zero = []
rows_above low (suc n) = (low + n) ∷ rows_above low n

-- the node that the book gives next
abbrev pub next_row : Book → ℕ
next_row b = first_row + (b.rows - length b.free)

-- no node was ever given back: the nodes from the next one on are free, and none is held
pub record IsFilling (b : Book) : Type 0 where
  pub fit : length b.free ≤ b.rows
  pub free : b.free ≡ rows_above (next_row b) (length b.free)
  pub held : b.held ≡ []

-- `n` nodes were taken from the book
pub record HasTaken (n : ℕ) (b b' : Book) : Type 0 where
  pub filling : IsFilling b'
  pub rows : b'.rows ≡ b.rows
  pub taken : length b.free ≡ length b'.free + n

-- the nodes are those of the book, and the free ones were never used
pub record IsOpenCopy (b : Book) (s : Sheet) : Type 0 where
  pub filling : IsFilling b
  pub rows : s.tree.rows ≡ b.rows
  pub new : (row : ℕ) → next_row b ≤ row → row < first_row + b.rows → life_of s.lives row ≡ New

-- the nodes below `low` or from `high` on
abbrev pub IsOutside : ℕ → ℕ → ℕ → Type 0
IsOutside low high row = (row < low) ⊎ (high ≤ row)

-- words were written in the nodes from `low` up to, but without, `high`, which are drafts then; all else is as before
pub record IsWritten (low high : ℕ) (s s' : Sheet) : Type 0 where
  pub rest : s' ≡ record s { tree = record s.tree { table = record s.tree.table { words = s'.tree.table.words } }; lives = s'.lives }
  pub words : (row c : ℕ) → IsOutside low high row → c < columns s.tree.table.width → column s'.tree.table row c ≡ column s.tree.table row c
  pub lives : (row : ℕ) → IsOutside low high row → life_of s'.lives row ≡ life_of s.lives row
  pub drafts : (row : ℕ) → low ≤ row → row < high → life_of s'.lives row ≡ Draft
