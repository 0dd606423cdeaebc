-- The nodes of a tree in the order of a walk, with the indexes that each covers.
-- Source: this project's own.
use Rattle.std.specs.Prelude.{ℕ, zero, suc, ◌+◌, List, [], ◌∷◌, Option, Some, None, flat_map}
use Rattle.mt_draw.specs.Prelude.{deepest, kind_width, RowKind, Leaf, Inner, Gapped, Span, gap_column, row_in, named_kind, slots_of, Table, column, spans_in, root_span}
use Rattle.mt_draw.specs.declared.trees.Node.{Node}
use Rattle.mt_draw.specs.declared.trees.DrawnTree.{DrawnTree}

abbrev pub table_of : DrawnTree → Table
table_of tree = record { width = kind_width tree.kind; words = tree.words.items }

-- the node that a span names, with this many others above it
abbrev pub node_at : ℕ → RowKind → Span → Node
node_at depth kind x = record { span = x; row = row_in x.word; kind = kind; depth = depth }

-- a leaf by itself, and an inner node before what is below it
abbrev pub with_below : ℕ → Option RowKind → Span → List Node → List Node
with_below depth None x below = []
with_below depth (Some Leaf) x below = node_at depth Leaf x ∷ []
with_below depth (Some Inner) x below = node_at depth Inner x ∷ below
with_below depth (Some Gapped) x below = node_at depth Gapped x ∷ below

-- the nodes that are reached, at most this many levels deep, each node before its children, children from the left
abbrev pub nodes_of : Table → ℕ → ℕ → Span → List Node
nodes_of t zero depth x = []
nodes_of t (suc levels) depth x = with_below depth (named_kind x.word) x (flat_map (nodes_of t levels (depth + 1)) (spans_in t x))

abbrev pub nodes_in : Table → ℕ → List Node
nodes_in t root = nodes_of t deepest 0 (root_span t root)

-- the gap word of a slot, and 0 in a node without gaps
abbrev pub gap_of_slot : Table → Node → ℕ → ℕ
gap_of_slot t x slot = gap_by t x.kind x.row slot where
  gap_by : Table → RowKind → ℕ → ℕ → ℕ
  gap_by t Leaf row slot = 0
  gap_by t Inner row slot = 0
  gap_by t Gapped row slot = column t row (gap_column (slots_of t.width Gapped) slot)
