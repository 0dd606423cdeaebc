-- What the words of a tree represent, by depth: the ranges in its leaves, the nodes that are reached, and the height.
-- Source: the kernel's core-api/maple_tree: a tree of nodes whose leaves hold the entries.
use Rattle.std.specs.Prelude.{ℕ, zero, suc, ◌+◌, List, [], ◌∷◌, Option, Some, None, flat_map}
use Rattle.mt_rows.specs.Prelude.{Range, deepest, RowKind, Leaf, Inner, Gapped, row_in, named_kind, Span, leaf_range}
use Rattle.mt_rows.specs.Spans.{Table, spans_in, root_span}

-- what a node gives: for a leaf by its spans, for an inner node by its children
abbrev pub by_kind : {A : Type 0} → Option RowKind → List A → List A → List A
by_kind None leaf inner = []
by_kind (Some Leaf) leaf inner = leaf
by_kind (Some Inner) leaf inner = inner
by_kind (Some Gapped) leaf inner = inner

-- the ranges below a node, at most this many levels deep; a word that is no name has none
abbrev pub ranges_of : Table → ℕ → Span → List Range
ranges_of t zero x = []
ranges_of t (suc depth) x = by_kind (named_kind x.word) (flat_map leaf_range (spans_in t x)) (flat_map (ranges_of t depth) (spans_in t x))

-- the nodes that are reached, each node before its children, children from the left
abbrev pub rows_of : Table → ℕ → Span → List ℕ
rows_of t zero x = []
rows_of t (suc depth) x = by_kind (named_kind x.word) (row_in x.word ∷ []) (row_in x.word ∷ flat_map (rows_of t depth) (spans_in t x))

-- what a node gives by the number of levels below its first child
abbrev pub levels_by : Option RowKind → ℕ → ℕ
levels_by None below = 0
levels_by (Some Leaf) below = 1
levels_by (Some Inner) below = 1 + below
levels_by (Some Gapped) below = 1 + below

abbrev pub of_first : (Span → ℕ) → List Span → ℕ
of_first f [] = 0
of_first f (x ∷ xs) = f x

-- the number of levels, counted along the first children
abbrev pub height_of : Table → ℕ → Span → ℕ
height_of t zero x = 0
height_of t (suc depth) x = levels_by (named_kind x.word) (of_first (height_of t depth) (spans_in t x))

-- the map of words, from the root word
abbrev pub map_in : Table → ℕ → List Range
map_in t root = ranges_of t deepest (root_span t root)

abbrev pub reached_in : Table → ℕ → List ℕ
reached_in t root = rows_of t deepest (root_span t root)

abbrev pub height_in : Table → ℕ → ℕ
height_in t root = height_of t deepest (root_span t root)
