-- What is known of nodes from call to call, whether they are reached or dead, and what a pass (handle) that may be at one
-- relies on.
-- Source: this project's own; the kernel's readers may be at nodes that are replaced, until a grace period is over.
use Rattle.std.specs.Prelude.{◌≡◌, ◌≢◌, ℕ, suc, ◌+◌, ◌-◌, ◌*◌, ◌<◌, ◌≤◌, ◌==◌, Bool, true, false, List, Some, length, slice_index_or}
use Rattle.std.specs.List.{AllByRecursion, flat_map}
use Rattle.mt_rows.specs.Names.{IsMap, RowKind, pivot_column, slots_of, leaf_range, Fills, Apart, EndsFull}
use Rattle.mt_life.specs.Prelude.{kind_width, columns, greatest, deepest, first_row, Kind, row_in, named_kind, dead_mark, Span, kind_at, one_if, map_by, is_reached, StandsAt, Rooted, Sheet, life_of, is_buried, word_at, Table, column, row_spans, root_span, Life, New, Draft, Live, Dead}
use Rattle.mt_life.specs.declared.views.Extent.{Extent}
use Rattle.mt_life.specs.declared.views.Moment.{Moment}
use Rattle.mt_life.specs.Moments.{PartOf}

-- ---- where nodes are

abbrev pub extent_at : Span → ℕ → Extent
extent_at x level = record { first = x.first; last = x.last; level = level }

-- extents as a list, by the node's number
abbrev pub nowhere : Extent
nowhere = record { first = 0; last = 0; level = 0 }

abbrev pub extent_of : List Extent → ℕ → Extent
extent_of extents row = slice_index_or extents row nowhere

-- what a node of this extent holds
abbrev pub spans_at : Kind → Table → ℕ → Extent → List Span
spans_at kind t row e = row_spans t row (kind_at kind e.level) e.first e.last

-- a table of `rows` nodes has this node
abbrev pub HasRow : ℕ → ℕ → Type 0
HasRow rows row = (first_row ≤ row) × (row < first_row + rows)

-- The spans fill the extent. A leaf's holes are apart and do not end it below the greatest index. A pivot after the spans is 0.
pub record Shape (kind : Kind) (t : Table) (row : ℕ) (e : Extent) : Type 0 where
  pub fills : Fills e.first (e.last + 1) (spans_at kind t row e)
  pub apart : e.level ≡ 0 → Apart (spans_at kind t row e)
  pub ends : e.level ≡ 0 → e.last < greatest t.width → EndsFull (spans_at kind t row e)
  pub unused : (i : ℕ) → i + 1 < slots_of t.width (kind_at kind e.level) → length (spans_at kind t row e) ≤ i → column t row (pivot_column i) ≡ 0

-- the leaf has what the map had there at the moment
abbrev pub HasPart : Kind → Table → ℕ → Extent → Moment → Type 0
HasPart kind t row e m = PartOf m e.first e.last (flat_map leaf_range (spans_at kind t row e))

-- ---- the state of nodes

-- the meanings of nodes that count: the others of a sheet do not
pub record State : Type 0 where
  pub tree : Rooted
  pub lives : List Life
  pub buried : List Bool
  pub ended : ℕ
  pub in_flight : Bool
  pub published : Bool
  pub cleared : ℕ

abbrev pub state_of : Sheet → State
state_of s = record { tree = s.tree; lives = s.lives; buried = s.buried; ended = s.ended; in_flight = s.in_flight; published = s.published; cleared = s.cleared }

-- a word for each column, and a life and a burying for each node
pub record IsFull (s : State) : Type 0 where
  pub words : length s.tree.table.words ≡ columns s.tree.table.width * (first_row + s.tree.rows)
  pub lives : length s.lives ≡ first_row + s.tree.rows
  pub buried : length s.buried ≡ first_row + s.tree.rows

-- more nodes may be used again
abbrev pub with_cleared : State → ℕ → State
with_cleared s cleared = record s { cleared = cleared }

-- how many calls have begun
abbrev pub begun_calls : State → ℕ
begun_calls s = s.ended + one_if s.in_flight

-- how many calls the map has seen
abbrev pub calls : State → ℕ
calls s = s.ended + one_if s.published

-- the node was live after k of `calls` calls
abbrev pub Alive : Life → ℕ → ℕ → Type 0
Alive New calls k = ⊥
Alive Draft calls k = ⊥
Alive Live calls k = k ≤ calls
Alive (Dead d) calls k = k < d

-- live, or dead no earlier than by the call d
abbrev pub Later : ℕ → Life → Type 0
Later d New = ⊥
Later d Draft = ⊥
Later d Live = Unit {0}
Later d (Dead e) = d ≤ e

abbrev pub IsLive : Life → Type 0
IsLive l = l ≡ Live

-- The word of a span names a node of this level that covers just what the span does.
pub record Child (kind : Kind) (rows : ℕ) (lives : List Life) (extents : ℕ → Extent) (L : Life → Type 0) (level : ℕ) (x : Span) : Type 0 where
  pub has : HasRow rows (row_in x.word)
  pub life : L (life_of lives (row_in x.word))
  pub extent : extents (row_in x.word) ≡ extent_at x level
  pub named : named_kind x.word ≡ Some (kind_at kind level)

-- so do all words of an inner node
abbrev pub HasChildren : Kind → State → (ℕ → Extent) → (Life → Type 0) → ℕ → ℕ → Type 0
HasChildren kind s extents L level row = AllByRecursion (Child kind s.tree.rows s.lives extents L level) (spans_at kind s.tree.table row (extents row))

-- What holds of nodes at every moment. Each node has an extent, and the map after each number of calls is a moment.
pub record Known (kind : Kind) (s : State) (extents : ℕ → Extent) (moments : ℕ → Moment) : Type 0 where
  pub width : s.tree.table.width ≡ kind_width kind
  -- between calls nothing is published
  pub calm : s.in_flight ≡ false → s.published ≡ false
  pub current : (moments (calls s)).ranges ≡ map_by s.tree
  pub maps : (k : ℕ) → k ≤ calls s → IsMap kind (moments k).ranges
  -- the root covers every index, and has few levels below it
  pub root : s.tree.root ≢ 0 → (level : ℕ) × (level < deepest) × Child kind s.tree.rows s.lives extents IsLive level (root_span s.tree.table s.tree.root)
  -- of nodes that are live or dead
  pub shape : (row : ℕ) → HasRow s.tree.rows row → Later 0 (life_of s.lives row) → Shape kind s.tree.table row (extents row)
  pub dead : (row d : ℕ) → HasRow s.tree.rows row → life_of s.lives row ≡ Dead d → (0 < d) × (d ≤ calls s)
  -- a dead node that may still be read carries the dead mark, and a live one just where the call in flight has buried it
  pub marks : (row d : ℕ) → HasRow s.tree.rows row → life_of s.lives row ≡ Dead d → s.cleared < d → word_at s.tree row 0 ≡ dead_mark row
  pub buried : (row : ℕ) → HasRow s.tree.rows row → is_buried s.buried row ≡ true
      → (life_of s.lives row ≡ Live) × (word_at s.tree row 0 ≡ dead_mark row) × (s.in_flight ≡ true) × (s.published ≡ false)
  pub unmarked : (row : ℕ) → HasRow s.tree.rows row → life_of s.lives row ≡ Live → is_buried s.buried row ≡ false → word_at s.tree row 0 ≢ dead_mark row
  -- a live leaf has what the map has there, and a dead one what it had before the call by which it died
  pub live_leaf : (row : ℕ) → HasRow s.tree.rows row → life_of s.lives row ≡ Live → (extents row).level ≡ 0 → HasPart kind s.tree.table row (extents row) (moments (calls s))
  pub dead_leaf : (row d : ℕ) → HasRow s.tree.rows row → life_of s.lives row ≡ Dead d → (extents row).level ≡ 0 → HasPart kind s.tree.table row (extents row) (moments (d - 1))
  -- a live inner node leads to live nodes, and a dead one that may still be read to nodes that did not die before it
  pub live_inner : (row level : ℕ) → HasRow s.tree.rows row → life_of s.lives row ≡ Live → (extents row).level ≡ suc level → HasChildren kind s extents IsLive level row
  pub dead_inner : (row level d : ℕ) → HasRow s.tree.rows row → life_of s.lives row ≡ Dead d → s.cleared < d → (extents row).level ≡ suc level → HasChildren kind s extents (Later d) level row

-- The extents of the nodes that are reached in a tree, and those of the others as they were.
pub record HasExtentsOf (t : Rooted) (before after : ℕ → Extent) : Type 0 where
  pub reached : (k : ℕ) (x : Span) → StandsAt t k x → after (row_in x.word) ≡ extent_at x k
  pub others : (row : ℕ) → is_reached t row ≡ false → after row ≡ before row

-- ---- what a handle that may be at a node relies on

-- the pivots of a node of this kind are the same, and so are the slots that are 0
abbrev pub SameForm : Table → Table → RowKind → ℕ → Type 0
SameForm t t' kind row = (c : ℕ) → 0 < c → c < 2 * slots_of t.width kind → (c < slots_of t.width kind → column t' row c ≡ column t row c) × ((column t' row c == 0) ≡ (column t row c == 0))

-- All this a step leaves: nodes that may still be read keep their places and forms, and those that are dead keep all.
pub record Goes (kind : Kind) (s s' : State) (extents extents' : ℕ → Extent) (moments moments' : ℕ → Moment) : Type 0 where
  pub rows : s'.tree.rows ≡ s.tree.rows
  pub width : s'.tree.table.width ≡ s.tree.table.width
  pub cleared : s.cleared ≤ s'.cleared
  pub count : (calls s ≤ calls s') × (calls s' ≤ calls s + 1)
  pub past : (k : ℕ) → k ≤ calls s → moments' k ≡ moments k
  pub later : (row d : ℕ) → HasRow s.tree.rows row → s.cleared < d → d ≤ calls s + 1 → Later d (life_of s.lives row) → Later d (life_of s'.lives row)
  pub place : (row d : ℕ) → HasRow s.tree.rows row → s.cleared < d → Later d (life_of s.lives row)
      → (extents' row ≡ extents row) × SameForm s.tree.table s'.tree.table (kind_at kind (extents row).level) row
  pub dead : (row d : ℕ) → HasRow s.tree.rows row → s.cleared < d → life_of s.lives row ≡ Dead d → life_of s'.lives row ≡ Dead d
  pub frozen : (row d c : ℕ) → HasRow s.tree.rows row → s.cleared < d → life_of s.lives row ≡ Dead d → c < columns s.tree.table.width → column s'.tree.table row c ≡ column s.tree.table row c
