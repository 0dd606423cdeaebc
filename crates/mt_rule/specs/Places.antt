-- The places of the words of a tree's table: each named word has one index.
-- Source: this project's own. Each handle's section word has a cache line of its own, so that readers share none.
use Rattle.std.specs.Prelude.{◌≡◌, ◌≢◌, ◌⊎◌, ℕ, ◌+◌, ◌*◌, ◌<◌, ◌≤◌, List, Option, Some, None, length, slice_index, ◌%◌, ◌/◌, ◌-◌}
use Rattle.mt_rule.specs.Prelude.{Width, columns, first_row, Place, Root, Slot, Rooted, IsPlace, word_at}
use Rattle.mt_rule.specs.declared.places.RowAt.{RowAt}

-- how many calls have ended, how many have begun, and the name of the root node
abbrev pub commits_at : ℕ
commits_at = 0

abbrev pub begun_at : ℕ
begun_at = 1

abbrev pub root_at : ℕ
root_at = 2

-- how many handles have pairs of cache lines of their own
abbrev pub paired_passes : ℕ
paired_passes = 31

-- the section word of a handle: those after the first ones use the lines that the pairs of these leave free
abbrev pub section_at : ℕ → ℕ
section_at pass = 16 * (pass % paired_passes) + 8 * (1 - pass / paired_passes) + 8

-- a column of a node
abbrev pub column_at : Width → ℕ → ℕ → ℕ
column_at width row col = columns width * row + col

-- the node's columns begin there, in a table of this width
abbrev pub IsRowAt : Width → RowAt → Type 0
IsRowAt width row = row.base ≡ column_at width row.number 0

-- the first column of the first node, and how many words there are
abbrev pub first_row_column : Width → ℕ
first_row_column width = columns width * first_row

abbrev pub table_size : Width → ℕ → ℕ
table_size width rows = columns width * (first_row + rows)

-- what a section word says: 0 where the section is closed
abbrev pub section_word : Option ℕ → ℕ
section_word None = 0
section_word (Some epoch) = 2 * epoch + 1

-- a section word is 0, or of an epoch that has been reached, if this many calls have ended
abbrev pub IsSectionWord : ℕ → ℕ → Type 0
IsSectionWord ended word = (word ≡ 0) ⊎ ((epoch : ℕ) × (word ≡ 2 * epoch + 1) × (epoch ≤ ended))

-- No named word has this index, in a tree with this many handles.
pub record IsUnnamed (passes i : ℕ) : Type 0 where
  pub commits : i ≢ commits_at
  pub begun : i ≢ begun_at
  pub root : i ≢ root_at
  pub section : (k : ℕ) → k < passes → i ≢ section_at k

-- the root word, or any column of a node
abbrev pub IsWordPlace : Rooted → Place → Type 0
IsWordPlace t Root = Unit {0}
IsWordPlace t (Slot row col) = IsPlace t row col

abbrev pub word_of_place : Rooted → Place → ℕ
word_of_place t Root = t.root
word_of_place t (Slot row col) = word_at t row col

-- The words of a table that opens with these nodes: no call has begun, and every section is closed.
pub record AreOpening (t : Rooted) (words : List ℕ) : Type 0 where
  pub size : length words ≡ table_size t.table.width t.rows
  pub none : (i : ℕ) → i ≢ root_at → i < first_row_column t.table.width → slice_index words i ≡ 0
  pub root : slice_index words root_at ≡ t.root
  pub columns : (i : ℕ) → first_row_column t.table.width ≤ i → slice_index words i ≡ slice_index t.table.words i
