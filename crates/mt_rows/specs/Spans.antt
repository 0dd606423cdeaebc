-- The spans of a node, read off the words of a tree.
-- Source: the kernel's include/linux/maple_tree.h, the layout of its nodes.
use Rattle.std.specs.Prelude.{ℕ, Bool, true, false, ◌+◌, ◌*◌, List, [], Option, Some, None, slice_index}
use Rattle.mt_rows.specs.Prelude.{Kind, Width, finds_room, columns, greatest, RowKind, row_in, named_kind, slots_of, gaps_of, items_at, Span, spans_from}
use Rattle.mt_layout.specs.declared.names.RowKind.TheVariants as kinds

-- The words of a tree's nodes: column c of node r is the word columns * r + c.
pub record Table : Type 0 where
  pub width : Width
  pub words : List ℕ

abbrev pub base_of : Table → ℕ → ℕ
base_of t row = columns t.width * row

abbrev pub column : Table → ℕ → ℕ → ℕ
column t row c = slice_index t.words (base_of t row + c)

-- the kind of the inner nodes of a tree with gaps, or without; a tree whose holes are searched has gaps
abbrev pub inner_of : Bool → RowKind
inner_of false = kinds.Inner
inner_of true = kinds.Gapped

abbrev pub inner_kind : Kind → RowKind
inner_kind kind = inner_of (finds_room kind)

-- what a node of this kind that covers first..last holds
abbrev pub row_spans : Table → ℕ → RowKind → ℕ → ℕ → List Span
row_spans t row kind first last = spans_from first (items_at (slots_of t.width kind) (gaps_of t.width kind) t.words (base_of t row) last)

abbrev pub spans_by : Table → Option RowKind → Span → List Span
spans_by t None x = []
spans_by t (Some kind) x = row_spans t (row_in x.word) kind x.first x.last

-- what the node that a span names holds, and nothing if its word is no name
abbrev pub spans_in : Table → Span → List Span
spans_in t x = spans_by t (named_kind x.word) x

-- the root's span: it covers every index
abbrev pub root_span : Table → ℕ → Span
root_span t root = record { first = 0; last = greatest t.width; word = root }
