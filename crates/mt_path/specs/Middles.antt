-- What is known of a node before its pivots are searched by groups.
-- Source: this project's own.
use Rattle.std.specs.Prelude.{◌≡◌, ℕ, ◌+◌, ◌<◌, ◌≤◌, slice_index}
use Rattle.mt_path.specs.Prelude.{columns, RowKind, items_at, row_words, slots_of, gaps_of, Fills, IsPlace, Rooted, Table, base_of, column, Width}
use Rattle.mt_path.specs.declared.rows.Row.{Row}
use Rattle.mt_path.specs.Paths.{slot_for}
use Rattle.mt_path.specs.Walks.{row_at, spans_of}

-- the node's spans fill its indexes, and its words are what its parent word and its items make them: what is unused is 0
pub record IsLawfulRow (t : Table) (row : Row) : Type 0 where
  pub fills : Fills row.min (row.max + 1) (spans_of t row)
  pub unused : (c : ℕ) → c < columns t.width
      → column t row.number c ≡ slice_index (row_words (columns t.width) (slots_of t.width row.kind) (gaps_of t.width row.kind) (column t row.number 0) (items_at (slots_of t.width row.kind) (gaps_of t.width row.kind) t.words (base_of t row.number) row.max)) c

-- An index that the node reaches may be sought among its slots, in a tree of this width.
pub record MaySeek (t : Rooted) (width : Width) (row : Row) (index : ℕ) : Type 0 where
  pub wide : width ≡ t.table.width
  pub place : IsPlace t row.number 0
  pub lawful : IsLawfulRow t.table row
  pub reaches : index ≤ row.max

-- In the node of this number and kind the slot holds the index, wherever that node is lawful and ends at the index or above.
abbrev pub IsSlotFor : Table → ℕ → RowKind → ℕ → ℕ → Type 0
IsSlotFor t number kind index slot = (min max : ℕ) → IsLawfulRow t (row_at number kind min max) → index ≤ max → slot ≡ slot_for (spans_of t (row_at number kind min max)) index
