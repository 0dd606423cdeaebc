-- The words of a tree that is built at once from its ranges: the leaves first, then each level above them, from the left.
-- Source: this project's own.
use Rattle.std.specs.Prelude.{ℕ, Bool, true, false, zero, suc, ◌+◌, ◌/◌, ◌==◌, List, [], ◌∷◌, ◌++◌, length, map, if◌then◌else◌}
use Rattle.std.specs.Int.{div_ceil}
use Rattle.std.specs.List.{range_with_len}
use Rattle.mt_bulk.specs.Prelude.{Kind, Range, Width, finds_room, columns, first_row, kind_width, Item, RowKind, end_of, longest_under, row_words, name_at, parent_at, slots_of, gaps_of, inner_kind, inner_of}
use Rattle.mt_layout.specs.declared.names.RowKind.TheVariants as kinds
use Rattle.mt_bulk.specs.Cuts.{cut, leaf_size, inner_size}
use Rattle.mt_bulk.specs.Items.{items_of}

-- how the items of a level are cut into nodes of this kind
abbrev pub size_in : Width → RowKind → List Item → ℕ
size_in width kinds.Leaf = leaf_size (slots_of width kinds.Leaf)
size_in width kinds.Inner = inner_size (slots_of width kinds.Inner)
size_in width kinds.Gapped = inner_size (slots_of width kinds.Gapped)

-- how many items an inner node has at most, in a tree with gaps or without
abbrev pub inner_slots : Width → Bool → ℕ
inner_slots width gapped = slots_of width (inner_of gapped)

-- how many nodes a level and the levels above it have, at most this many levels
abbrev pub rows_up : Width → Bool → ℕ → ℕ → ℕ
rows_up width gapped zero rows = 0
rows_up width gapped (suc left) rows = if rows == 1 then 1 else rows + rows_up width gapped left (div_ceil rows (inner_slots width gapped))

-- the longest hole below a node that begins at `first`, if the tree keeps gaps
abbrev pub gap_below : Bool → RowKind → ℕ → List Item → ℕ
gap_below false kind first items = 0
gap_below true kind first items = longest_under kind first items

-- the items of the level above: one for each node; the first begins at `first` and has this number
abbrev pub heads : Bool → RowKind → ℕ → ℕ → List (List Item) → List Item
heads gapped kind first number [] = []
heads gapped kind first number (row ∷ rows) = record { last = end_of first row; word = name_at number kind; gap = gap_below gapped kind first row } ∷ heads gapped kind (end_of first row + 1) (number + 1) rows

-- the parent words of the children in these nodes, the first of which has this number
abbrev pub parents_in : ℕ → List (List Item) → List ℕ
parents_in number [] = []
parents_in number (row ∷ rows) = map (parent_at number) (range_with_len 0 (length row)) ++ parents_in (number + 1) rows

-- the words of nodes of one kind, each with its parent word
abbrev pub words_of : Width → RowKind → List ℕ → List (List Item) → List ℕ
words_of width kind (parent ∷ parents) (row ∷ rows) = row_words (columns width) (slots_of width kind) (gaps_of width kind) parent row ++ words_of width kind parents rows
words_of width kind [] rows = []
words_of width kind (parent ∷ parents) [] = []

-- a root word, and the words of nodes from a number on
pub record Built : Type 0 where
  pub root : ℕ
  pub words : List ℕ

-- the nodes of a level and of those above it, at most this many levels; the first node of the level has this number
unfoldable pub built_up : Kind → ℕ → RowKind → ℕ → List Item → Built
built_up tree zero kind number items = record { root = 0; words = [] }
built_up tree (suc left) kind number items =
    let width = kind_width tree in
    let rows = cut (size_in width kind) items in
    let above = heads (finds_room tree) kind 0 number rows in
    let next = number + length rows in
    let upper = built_up tree left (inner_kind tree) next above in
    if length rows == 1 then record { root = name_at number kind; words = words_of width kind (1 ∷ []) rows }
    else record { root = upper.root; words = words_of width kind (parents_in next (cut (size_in width (inner_kind tree)) above)) rows ++ upper.words }

-- the nodes of all items of a level, and those above them; a level has fewer nodes than items, so there are no more levels than
-- items
abbrev pub levels_built : Kind → RowKind → ℕ → List Item → Built
levels_built tree kind number items = built_up tree (length items) kind number items

-- the tree of a map; that of the empty one has no node, and the root word 0
abbrev pub bulk : Kind → List Range → Built
bulk tree [] = record { root = 0; words = [] }
bulk tree (r ∷ m) = levels_built tree kinds.Leaf first_row (items_of tree (r ∷ m))

-- how many nodes it has
abbrev pub rows_in : Kind → List Range → ℕ
rows_in tree m = length (bulk tree m).words / columns (kind_width tree)

-- the parent words of nodes that are these items of the level above, whose nodes are numbered from `next` on; a node that is
-- alone is the root
abbrev pub parents_over : Kind → ℕ → List Item → List ℕ
parents_over tree next items = if length items == 1 then 1 ∷ [] else parents_in next (cut (size_in (kind_width tree) (inner_kind tree)) items)
