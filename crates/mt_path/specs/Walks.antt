-- What a walk finds in a node, and which node it is in.
-- Source: the kernel's lib/maple_tree.c, mtree_range_walk.
use Rattle.std.specs.Prelude.{◌≡◌, ℕ, ◌<◌, ◌≤◌, List, length, take, Option, Some, option_map}
use Rattle.mt_path.specs.Prelude.{greatest, RowKind, Leaf, Span, row_in, named_kind, slots_of, slot_column, Rooted, IsPlace, Table, column, row_spans, root_span}
use Rattle.mt_path.specs.declared.paths.PathStep.{PathStep}
use Rattle.mt_path.specs.declared.rows.Row.{Row}
use Rattle.mt_path.specs.declared.rows.Found.{Found}
use Rattle.mt_path.specs.Handles.{handle_in}
use Rattle.mt_path.specs.Paths.{slot_for, span_at, path_in, row_on}

-- a node of this number and kind, and the first and the last index that it covers
abbrev pub row_at : ℕ → RowKind → ℕ → ℕ → Row
row_at number kind min max = record { number = number; kind = kind; min = min; max = max }

-- the node of this kind that a span names
abbrev pub row_as : Span → RowKind → Row
row_as x kind = record { number = row_in x.word; kind = kind; min = x.first; max = x.last }

abbrev pub row_for : Span → Option Row
row_for x = option_map (row_as x) (named_kind x.word)

abbrev pub spans_of : Table → Row → List Span
spans_of t row = row_spans t row.number row.kind row.min row.max

-- the word in a slot of a node
abbrev pub slot_word : Table → RowKind → ℕ → ℕ → ℕ
slot_word t kind row slot = column t row (slot_column (slots_of t.width kind) slot)

-- what is found at an index
abbrev pub found_span : Table → RowKind → Found → Span
found_span t kind found = record { first = found.first; last = found.last; word = slot_word t kind found.step.row found.step.slot }

-- the step of an index in a node, and what its slot holds
pub record IsFoundSlot (t : Table) (row : Row) (index : ℕ) (found : Found) : Type 0 where
  pub step : found.step ≡ record { row = row.number; slot = slot_for (spans_of t row) index; min = row.min; max = row.max }
  pub used : found.step.slot < slots_of t.width row.kind
  pub span : found_span t row.kind found ≡ span_at (spans_of t row) found.step.slot

-- a slot of the node is in use, and what it holds begins at the index
pub record BeginsAt (t : Table) (row : Row) (slot index : ℕ) : Type 0 where
  pub used : slot < length (spans_of t row)
  pub first : (span_at (spans_of t row) slot).first ≡ index

-- the node that the path to an index enters this many levels below the root
pub record IsOnWay (t : Rooted) (index depth : ℕ) (row : Row) : Type 0 where
  pub low : depth < length (path_in t.table t.root index)
  pub named : Some row ≡ row_for (row_on t.table depth (root_span t.table t.root) index)

-- A walk to the index has gone by these steps, and enters this node next.
pub record WalksTo (t : Rooted) (index : ℕ) (steps : List PathStep) (row : Row) : Type 0 where
  pub within : index ≤ greatest t.table.width
  pub front : steps ≡ take (length steps) (path_in t.table t.root index)
  pub way : IsOnWay t index (length steps) row

-- the step of an index in its leaf, and what its slot holds
pub record IsAtEnd (t : Rooted) (index : ℕ) (found : Found) : Type 0 where
  pub place : IsPlace t found.step.row 0
  pub used : found.step.slot < slots_of t.table.width Leaf
  pub handle : record { leaf = found.step; span = found_span t.table Leaf found } ≡ handle_in t index

-- The way to an index goes by these steps and enters this leaf then.
pub record EntersLeaf (t : Rooted) (index : ℕ) (steps : List PathStep) (leaf : Span) : Type 0 where
  pub front : steps ≡ take (length steps) (path_in t.table t.root index)
  pub low : length steps < length (path_in t.table t.root index)
  pub enters : row_on t.table (length steps) (root_span t.table t.root) index ≡ leaf
  pub is_leaf : named_kind leaf.word ≡ Some Leaf
