-- What the laws demand of a node with any words, as tests. `left` is the greatest number of levels from the node down, itself
-- counted.
-- Source: the kernel's lib/maple_tree.c, mt_validate and its parts; that a leaf never ends with a hole below the greatest
-- index, and the least numbers of items, are this project's.
use Rattle.std.specs.Prelude.{ℕ, zero, suc, ◌+◌, ◌-◌, ◌==◌, ◌&&◌, ◌||◌, not, nat_eq, nat_le, nat_lt, max, map, List, [], ◌∷◌, Option, Some, None, Bool, true, false, if◌then◌else◌}
use Rattle.std.specs.List.{list_all, list_any, range_with_len}
use Rattle.std.specs.Cmp.Lexicographic.{pointwise}
use Rattle.mt_check.specs.Prelude.{Width, reserved, columns, deepest, first_row, RowKind, Leaf, Inner, Gapped, Item, Span, row_in, named_kind, slots_of, least_items, gap_column, longest_in, Table, column, spans_in, items_in, words_in}

-- ---- Name: a node of the table, and a leaf or an inner node as the tree has them, with gaps or without

abbrev pub may_stand : Bool → RowKind → Bool
may_stand gapped Leaf = true
may_stand gapped Inner = not gapped
may_stand gapped Gapped = gapped

abbrev pub may_be_named : Bool → Option RowKind → Bool
may_be_named gapped None = false
may_be_named gapped (Some kind) = may_stand gapped kind

abbrev pub names_row : Bool → ℕ → ℕ → Bool
names_row gapped rows word = may_be_named gapped (named_kind word) && nat_lt (row_in word) (first_row + rows)

-- ---- Depth: the root's is 1; it is at most the deepest, and that of a leaf is the tree's height

abbrev pub depth_at : ℕ → ℕ
depth_at left = deepest + 1 - left

abbrev pub has_depth : ℕ → ℕ → RowKind → Bool
has_depth height left Leaf = nat_le (depth_at left) deepest && (depth_at left == height)
has_depth height left Inner = nat_le (depth_at left) deepest
has_depth height left Gapped = nat_le (depth_at left) deepest

-- ---- Pivots: they rise from the node's first index on and end at its last. Each column is what the parent word and the items
-- make it, so unused columns are 0.

abbrev pub rise_to : ℕ → ℕ → List Item → Bool
rise_to first last [] = false
rise_to first last (x ∷ []) = nat_le first x.last && (x.last == last)
rise_to first last (x ∷ y ∷ items) = nat_le first x.last && (nat_lt x.last last && rise_to (x.last + 1) last (y ∷ items))

abbrev pub words_of : Table → ℕ → List ℕ
words_of t row = map (column t row) (range_with_len 0 (columns t.width))

abbrev pub has_pivots : Table → RowKind → Span → Bool
has_pivots t kind x = rise_to x.first x.last (items_in t kind x) && pointwise nat_eq (words_of t (row_in x.word)) (words_in t kind x)

-- ---- Count: a leaf that is the root has an item, an inner root two, and any other node the least number of its kind

abbrev pub least_in_root : RowKind → ℕ
least_in_root Leaf = 1
least_in_root Inner = 2
least_in_root Gapped = 2

abbrev pub least_at : Width → ℕ → RowKind → ℕ
least_at width left kind = if depth_at left == 1 then least_in_root kind else least_items width kind

-- ---- Entries: none in a leaf is reserved

abbrev pub has_entries : RowKind → List Item → Bool
has_entries Leaf items = list_all (λ x. not (reserved x.word)) items
has_entries Inner items = true
has_entries Gapped items = true

-- ---- Holes: in a leaf no two follow each other, some item is an entry, and none is last but at the greatest index

-- whether a hole comes before the items, and whether they may end with one
abbrev pub are_apart : Bool → Bool → List Item → Bool
are_apart before may_end [] = may_end || not before
are_apart before may_end (x ∷ items) = not (before && (x.word == 0)) && are_apart (x.word == 0) may_end items

abbrev pub has_holes : Bool → RowKind → List Item → Bool
has_holes may_end Leaf items = are_apart false may_end items && list_any (λ x. not (x.word == 0)) items
has_holes may_end Inner items = true
has_holes may_end Gapped items = true

-- ---- Gaps: each gap word of an inner node with gaps is the longest hole below its item

abbrev pub longest_of : (Span → ℕ) → List Span → ℕ
longest_of f [] = 0
longest_of f (x ∷ xs) = max (f x) (longest_of f xs)

abbrev pub longest_by : Option RowKind → ℕ → ℕ → ℕ
longest_by None leaf inner = 0
longest_by (Some Leaf) leaf inner = leaf
longest_by (Some Inner) leaf inner = inner
longest_by (Some Gapped) leaf inner = inner

-- the longest hole in the leaves below a node, at most this many levels deep
unfoldable pub longest_at : Table → ℕ → Span → ℕ
longest_at t zero x = 0
longest_at t (suc left) x = longest_by (named_kind x.word) (longest_in (spans_in t x)) (longest_of (longest_at t left) (spans_in t x))

-- in a node with gaps, the gap word is this length
abbrev pub tells_gap : RowKind → ℕ → ℕ → Bool
tells_gap Leaf gap longest = true
tells_gap Inner gap longest = true
tells_gap Gapped gap longest = gap == longest

-- from a slot of the node on
abbrev pub has_gaps_from : (Span → ℕ) → Table → RowKind → ℕ → ℕ → List Span → Bool
has_gaps_from longest t kind row slot [] = true
has_gaps_from longest t kind row slot (x ∷ xs) = tells_gap kind (column t row (gap_column (slots_of t.width kind) slot)) (longest x) && has_gaps_from longest t kind row (slot + 1) xs

abbrev pub has_gaps : (Span → ℕ) → Table → RowKind → Span → Bool
has_gaps longest t kind x = has_gaps_from longest t kind (row_in x.word) 0 (spans_in t x)
