-- What proofs say of rows whose words are written in a table, and of the tree that is built.
use Rattle.mt_bulk.proofs.Prelude.{◌≡◌, ◌≢◌, ℕ, zero, suc, ◌+◌, ◌*◌, ◌<◌, ◌≤◌, false, List, [], ◌∷◌, ◌++◌, replicate, slice_index, AllByRecursion, flat_map, Kind, finds_room, columns, first_row, kind_width, most_rows, Item, RowKind, Span, end_of, row_words, FitRow, slots_of, gaps_of, spans_from, leaf_range, Apart, EndsFull, reserved, Range, row_in, Levels, map_of, root_of, Tree, IsRow, IsTended, top_of, Table, column, Built}

-- the words of a row of this number are those of these items, with some parent word
abbrev pub IsWritten : Table → RowKind → ℕ → ℕ → List Item → Type 0
IsWritten t kind number parent row = (c : ℕ) → c < columns t.width → column t number c ≡ slice_index (row_words (columns t.width) (slots_of t.width kind) (gaps_of t.width kind) parent row) c

abbrev pub AreWritten : Table → RowKind → ℕ → List (List Item) → Type 0
AreWritten t kind number [] = Unit {0}
AreWritten t kind number (row ∷ rows) = ((parent : ℕ) × IsWritten t kind number parent row) × AreWritten t kind (number + 1) rows

-- each row can hold its items
abbrev pub AreFit : Table → RowKind → List (List Item) → Type 0
AreFit t kind rows = AllByRecursion (FitRow (slots_of t.width kind) (gaps_of t.width kind)) rows

-- so many rows from this number on can be named
pub record CanBeNamed (number count : ℕ) : Type 0 where
  pub first : first_row ≤ number
  pub last : number + count ≤ first_row + most_rows

-- what is asked of the items of a leaf that begins at an index; of other rows nothing
pub record IsLeafOf (t : Tree) (first : ℕ) (row : List Item) : Type 0 where
  pub entries : AllByRecursion (λ (y : Span). reserved y.word ≡ false) (spans_from first row)
  pub apart : Apart (spans_from first row)
  pub ends : end_of first row < top_of t → EndsFull (spans_from first row)
  pub some : flat_map leaf_range (spans_from first row) ≢ []

abbrev pub IsOfHeight : Tree → ℕ → ℕ → List Item → Type 0
IsOfHeight t zero first row = IsLeafOf t first row
IsOfHeight t (suc h) first row = Unit {0}

-- The words of a tree keep all laws of rows, and stand for a map. (That the height is below the most follows from the number of
-- rows.)
pub record StandsFor (t : Tree) (m : List Range) : Type 0 where
  pub height : ℕ
  pub rows : Levels (IsRow t) t.table height (root_of t)
  pub map : map_of t.table height (root_of t) ≡ m
  pub tended : Levels (IsTended t) t.table height (root_of t)
  pub parent : column t.table (row_in t.root) 0 ≡ 1

-- what is built, as a tree of so many rows: the words before the first row, which no row has, are 0
abbrev pub tree_built : Kind → ℕ → Built → Tree
tree_built tree rows b = record { rows = rows; gapped = finds_room tree; table = record { width = kind_width tree; words = replicate (columns (kind_width tree) * first_row) 0 ++ b.words }; root = b.root }
