-- The eight laws of well-formed words, each of a node that covers first..last at a height; leaves have the height 0.
-- Source: the kernel's lib/maple_tree.c, mt_validate and its parts; that a leaf never ends with a hole below the
-- greatest index, and the least numbers of items, are this project's.
use Rattle.std.specs.Prelude.{◌≡◌, ◌≢◌, ◌⊎◌, ℕ, zero, suc, ◌+◌, ◌*◌, ◌<◌, ◌≤◌, ◌==◌, ◌&&◌, List, [], ◌∷◌, Some, Bool, false, length, slice_index, if◌then◌else◌}
use Rattle.std.specs.List.{AllByRecursion, flat_map}
use Rattle.mt_rows.specs.Prelude.{Kind, finds_room, reserved, columns, greatest, deepest, first_row, RowKind, Leaf, Inner, Gapped, Item, slots_of, gaps_of, least_items, items_at, row_words, gap_column, row_in, named_kind, parent_at, Span, leaf_range, longest_in, Fills, Apart, EndsFull}
use Rattle.mt_rows.specs.Spans.{Table, base_of, column, inner_of, spans_in, root_span}
use Rattle.mt_rows.specs.Levels.{Levels, expand}

-- A tree of nodes: how many there are, and whether its inner nodes have gaps.
pub record Tree : Type 0 where
  pub rows : ℕ
  pub gapped : Bool
  pub table : Table
  pub root : ℕ

abbrev pub top_of : Tree → ℕ
top_of t = greatest t.table.width

-- there is a word for each column of each node, and of those before the first that no node has
abbrev pub HasWords : Tree → Type 0
HasWords t = length t.table.words ≡ columns t.table.width * (first_row + t.rows)

-- the kind that a node of this height has, in a tree with gaps or without; and in a tree of a kind
abbrev pub kind_on : Bool → ℕ → RowKind
kind_on gapped zero = Leaf
kind_on gapped (suc h) = inner_of gapped

abbrev pub kind_at : Kind → ℕ → RowKind
kind_at kind = kind_on (finds_room kind)

-- Name: the word that leads here names a node of the table, of the kind of its height in this tree.
pub record NameLaw (t : Tree) (h : ℕ) (x : Span) : Type 0 where
  pub named : named_kind x.word ≡ Some (kind_on t.gapped h)
  pub in_table : row_in x.word < first_row + t.rows

-- Parent: each child's parent word names this node and the child's slot.
abbrev pub ParentsFrom : Table → ℕ → ℕ → List Span → Type 0
ParentsFrom t row slot [] = Unit {0}
ParentsFrom t row slot (x ∷ xs) = (column t (row_in x.word) 0 ≡ parent_at row slot) × ParentsFrom t row (slot + 1) xs

abbrev pub ParentLaw : Tree → ℕ → Span → Type 0
ParentLaw t zero x = Unit {0}
ParentLaw t (suc h) x = ParentsFrom t.table (row_in x.word) 0 (spans_in t.table x)

-- Pivots: the items fill the node's indexes, and each column is what the parent word and the items make it, so that unused
-- columns are 0.
abbrev pub items_in : Table → RowKind → Span → List Item
items_in t kind x = items_at (slots_of t.width kind) (gaps_of t.width kind) t.words (base_of t (row_in x.word)) x.last

abbrev pub words_in : Table → RowKind → Span → List ℕ
words_in t kind x = row_words (columns t.width) (slots_of t.width kind) (gaps_of t.width kind) (column t (row_in x.word) 0) (items_in t kind x)

pub record PivotLaw (t : Tree) (h : ℕ) (x : Span) : Type 0 where
  pub fills : Fills x.first (x.last + 1) (spans_in t.table x)
  pub unused : (c : ℕ) → c < columns t.table.width → column t.table (row_in x.word) c ≡ slice_index (words_in t.table (kind_on t.gapped h) x) c

-- A node that covers every index is the root, since every other node has a neighbour.
abbrev pub covers_all : Tree → Span → Bool
covers_all t x = (x.first == 0) && (x.last == top_of t)

-- Count: the least number of items. A node has no more than it has slots, whatever its words.
abbrev pub least_of_root : ℕ → ℕ
least_of_root zero = 1
least_of_root (suc h) = 2

abbrev pub least_of : Tree → ℕ → Span → ℕ
least_of t h x = if covers_all t x then least_of_root h else least_items t.table.width (kind_on t.gapped h)

pub record CountLaw (t : Tree) (h : ℕ) (x : Span) : Type 0 where
  pub least : least_of t h x ≤ length (spans_in t.table x)

-- Entries: no leaf slot holds a reserved entry.
abbrev pub EntryLaw : Tree → ℕ → Span → Type 0
EntryLaw t zero x = AllByRecursion (λ (y : Span). reserved y.word ≡ false) (spans_in t.table x)
EntryLaw t (suc h) x = Unit {0}

-- Holes: no two holes follow each other; a leaf that does not end at the greatest index ends with an entry; and some
-- item is an entry.
pub record HoleLawOfLeaf (t : Tree) (x : Span) : Type 0 where
  pub apart : Apart (spans_in t.table x)
  pub ends : x.last < top_of t → EndsFull (spans_in t.table x)
  pub some : flat_map leaf_range (spans_in t.table x) ≢ []

abbrev pub HoleLaw : Tree → ℕ → Span → Type 0
HoleLaw t zero x = HoleLawOfLeaf t x
HoleLaw t (suc h) x = Unit {0}

-- Gaps: each gap word of an inner node with gaps is the longest hole in the leaves below its item. the longest hole below nodes
-- of a height
abbrev pub longest_below : Table → ℕ → List Span → ℕ
longest_below t zero xs = longest_in (expand t xs)
longest_below t (suc h) xs = longest_below t h (expand t xs)

abbrev pub GapsFrom : Table → ℕ → ℕ → ℕ → List Span → Type 0
GapsFrom t h row slot [] = Unit {0}
GapsFrom t h row slot (x ∷ xs) = (column t row (gap_column (slots_of t.width Gapped) slot) ≡ longest_below t h (x ∷ [])) × GapsFrom t h row (slot + 1) xs

abbrev pub GapLawBy : RowKind → Table → ℕ → Span → Type 0
GapLawBy Leaf t h x = Unit {0}
GapLawBy Inner t h x = Unit {0}
GapLawBy Gapped t h x = GapsFrom t h (row_in x.word) 0 (spans_in t x)

abbrev pub GapLaw : Tree → ℕ → Span → Type 0
GapLaw t zero x = Unit {0}
GapLaw t (suc h) x = GapLawBy (inner_of t.gapped) t.table h x

-- ---- well-formed words

-- all laws of a node but those of parents and gaps, which hold only between calls
pub record IsRow (t : Tree) (h : ℕ) (x : Span) : Type 0 where
  pub name : NameLaw t h x
  pub pivots : PivotLaw t h x
  pub count : CountLaw t h x
  pub entries : EntryLaw t h x
  pub holes : HoleLaw t h x

pub record IsTended (t : Tree) (h : ℕ) (x : Span) : Type 0 where
  pub parent : ParentLaw t h x
  pub gaps : GapLaw t h x

-- Depth: every leaf is at height 0, and the root's height is below the greatest one.
pub record Stands (t : Tree) (h : ℕ) : Type 0 where
  pub low : h < deepest
  pub rows : Levels (IsRow t) t.table h (root_span t.table t.root ∷ [])

-- the words keep all laws but those of parents and gaps
abbrev pub IsTree : Tree → Type 0
IsTree t = (t.root ≡ 0) ⊎ ((h : ℕ) × Stands t h)

-- the words are well-formed
abbrev pub IsLawful : Tree → Type 0
IsLawful t = (t.root ≡ 0) ⊎ ((h : ℕ) × Stands t h × (column t.table (row_in t.root) 0 ≡ 1) × Levels (IsTended t) t.table h (root_span t.table t.root ∷ []))
