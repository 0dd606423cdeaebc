-- The ledger of a replacement: which nodes it has taken, and which are gone.
-- Source: this project's own; the kernel keeps the old and the new nodes in lib/maple_tree.c, struct maple_subtree_state.
use Rattle.std.specs.Prelude.{◌≡◌, ℕ, zero, suc, ◌+◌, ◌<◌, ◌≤◌, true, false, List, ◌∷◌, ◌++◌, length, map, if◌then◌else◌, []}
use Rattle.mt_splice.specs.Prelude.{Kind, columns, first_row, row_in, dead_mark, Book, StampedRow, Draft, Table, column, spans_in, Sheet, IsWhole, life_of, is_buried, tree_as, IsToldKind, is_reached}
use Rattle.mt_splice.specs.declared.writes.NewRow.{NewRow}
use Rattle.mt_splice.specs.steps.Seen.{Seen, was_seen}
use Rattle.mt_splice.specs.steps.Starts.{Start, with_words}
use Rattle.mt_splice.specs.steps.Writes.{no_parent}
use Rattle.mt_splice.specs.Kept.{IsConsistent, IsUnpublished}

-- the rows and the book as they were, and the number of the call
pub record Before : Type 0 where
  pub sheet : Sheet
  pub book : Book
  pub kind : Kind
  pub number : ℕ

-- They are kept, and the start is their tree.
pub record IsStartOf (b : Before) (start : Start) : Type 0 where
  pub whole : IsWhole b.sheet
  pub tree : start.tree ≡ tree_as b.kind b.sheet.tree
  pub kept : IsConsistent b.kind b.sheet.tree b.sheet.lives b.sheet.buried b.sheet.cleared b.book b.number

-- a call on them is in flight and has published nothing
pub record IsInFlight (b : Before) (start : Start) : Type 0 where
  pub told : IsToldKind b.sheet.kind b.kind
  pub unpublished : IsUnpublished b.sheet.in_flight b.sheet.published b.sheet.ended b.number
  pub was : IsStartOf b start

abbrev pub row_seen : Seen → ℕ
row_seen s = row_in s.at.word

abbrev pub stamped : ℕ → Seen → StampedRow
stamped number s = record { row = row_seen s; stamp = number }

-- The rows taken are drafts, from the end of the free rows; those gone are buried, and retired in their order; every other
-- row is as it was.
pub record IsLedger (b : Before) (s : Sheet) (book : Book) (taken gone : List Seen) : Type 0 where
  pub rest : record s { tree = b.sheet.tree; lives = b.sheet.lives; buried = b.sheet.buried; reads = b.sheet.reads } ≡ b.sheet
  pub tree : s.tree ≡ with_words b.sheet.tree s.tree.table.words
  pub whole : IsWhole s
  pub free : b.book.free ≡ book.free ++ map row_seen taken
  pub held : book.held ≡ b.book.held ++ map (stamped b.number) gone
  pub rows : book.rows ≡ b.book.rows
  pub lives : (row : ℕ) → first_row ≤ row → row < first_row + b.sheet.tree.rows → life_of s.lives row ≡ (if was_seen taken row then Draft else life_of b.sheet.lives row)
  pub buried : (row : ℕ) → first_row ≤ row → row < first_row + b.sheet.tree.rows → is_buried s.buried row ≡ was_seen gone row
  pub kept : (row c : ℕ) → was_seen taken row ≡ false → 0 < c → c < columns b.sheet.tree.table.width → column s.tree.table row c ≡ column b.sheet.tree.table row c
  pub parents : (row : ℕ) → was_seen taken row ≡ false → was_seen gone row ≡ false → column s.tree.table row 0 ≡ column b.sheet.tree.table row 0
  pub new_parents : (row : ℕ) → was_seen taken row ≡ true → column s.tree.table row 0 ≡ no_parent
  pub marks : (row : ℕ) → is_reached b.sheet.tree row ≡ true → was_seen gone row ≡ true → column s.tree.table row 0 ≡ dead_mark row

-- ---- inner rows that were written

abbrev pub new_row_by : ℕ → Table → Seen → List NewRow
new_row_by zero t s = []
new_row_by (suc height) t s = record { row = row_seen s; count = length (spans_in t s.at) } ∷ []

-- the inner rows that were taken, in their order, each with the number of its children
abbrev pub new_rows_of : Table → List Seen → List NewRow
new_rows_of t [] = []
new_rows_of t (s ∷ seen) = new_rows_of t seen ++ new_row_by s.height t s
