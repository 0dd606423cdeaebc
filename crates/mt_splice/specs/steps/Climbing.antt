-- A climb from the leaves up to the node in which the replacement is published: nodes are read and drafted, and none is buried.
-- Source: the kernel's lib/maple_tree.c, mas_spanning_rebalance, which goes up until one node takes the place of one.
use Rattle.std.specs.Prelude.{◌≡◌, ◌⊎◌, ℕ, zero, suc, ◌+◌, ◌*◌, ◌<◌, ◌≤◌, List, ◌∷◌, ◌++◌, length, []}
use Rattle.mt_splice.specs.Prelude.{first_row, Book, Item, RowKind, Span, row_in, slot_column, name_at, slots_of, spans_from, Root, Slot, Stands, kind_on, top_of, Sheet, inner_of, PathStep, path_in, step_at, step_in}
use Rattle.mt_splice.specs.declared.climbing.Climb.{Climb}
use Rattle.mt_splice.specs.declared.climbing.Top.{Top}
use Rattle.mt_splice.specs.declared.decisions.Next.{Next}
use Rattle.mt_splice.specs.declared.decisions.Next.TheVariants.{Empty, Root as AtRoot, RootAbove, Slot as InSlot, Up}
use Rattle.mt_splice.specs.declared.ways.Window.{Window}
use Rattle.mt_splice.specs.steps.Decisions.{IsNextDecision}
use Rattle.mt_splice.specs.steps.Plans.{Layer, depth_at, heads_at, new_at, level_of, IsPlanned, AreAllHeld, taken_by, windows_by, window_at, windows_above}
use Rattle.mt_splice.specs.steps.Ledgers.{Before, IsInFlight, IsLedger, new_rows_of}
use Rattle.mt_splice.specs.steps.Runs.{MayBeCut}
use Rattle.mt_splice.specs.steps.Seen.{Seen, was_seen}
use Rattle.mt_splice.specs.steps.Telling.{AreFromBelow, AreAllFromBelow}
use Rattle.mt_splice.specs.steps.Widening.{MayWiden}
use Rattle.mt_splice.specs.steps.Windows.{row_at, low_of, high_of}
use Rattle.mt_splice.specs.steps.Starts.{Start}
use Rattle.mt_splice.specs.steps.Writes.{IsNewRow}

-- ---- level by level

-- For each level below this one a layer is drafted, and no node is marked dead yet. What the window of this level will hold is
-- gathered.
pub record IsClimbing (b : Before) (start : Start) (s : Sheet) (book : Book) (kind : RowKind) (depth : ℕ) (c : Climb) : Type 0 where
  pub layers : List Layer
  pub case : IsInFlight b start
  pub of_kind : kind ≡ kind_on start.tree.gapped (length layers)
  pub planned : IsPlanned start layers
  pub held : AreAllHeld start s.tree.table.words (was_seen (taken_by start layers)) layers
  pub ledger : IsLedger b s book (taken_by start layers) []
  pub gathered : MayWiden start (level_of start layers) c.ways.left.items c.ways.right.items depth (length layers) c.gathered.run.items
  pub from_below : AreFromBelow start layers (step_at c.ways.left.items depth).min ((step_at c.ways.right.items depth).max + 1) c.gathered.run.items
  pub told : AreAllFromBelow start layers
  pub windows : c.windows.items ≡ windows_by start layers
  pub made : c.made.items ≡ new_rows_of s.tree.table (taken_by start layers)
  pub inner : c.inner ≡ inner_of start.tree.gapped
  pub room : 3 * (start.height + 1) + 1 ≤ length b.book.free

-- ---- one level

-- The leaves should hold one hole of every index: nothing is left of the tree, and no node was taken.
pub record IsNothingLeft (b : Before) (start : Start) (s : Sheet) (book : Book) (depth : ℕ) (c : Climb) : Type 0 where
  pub from : ℕ
  pub to : ℕ
  pub order : from ≤ to
  pub within : to ≤ top_of start.tree
  pub left : c.ways.left.items ≡ path_in start.tree.table start.tree.root from
  pub right : c.ways.right.items ≡ path_in start.tree.table start.tree.root to
  pub stands : Stands start.tree start.height
  pub leaves : start.height ≡ depth
  pub first : low_of start.tree depth from ≡ 0
  pub last : high_of start.tree depth to ≡ top_of start.tree + 1
  pub none : start.map ≡ []
  pub case : IsInFlight b start
  pub ledger : IsLedger b s book [] []
  pub windows : c.windows.items ≡ window_at start depth from to ∷ []
  pub made : c.made.items ≡ []
  pub inner : c.inner ≡ inner_of start.tree.gapped

-- A layer more is drafted, in these rows, which are these items one level up, and the climb goes on so.
pub record IsLevelDrafted (b : Before) (start : Start) (s : Sheet) (book : Book) (depth : ℕ) (c : Climb) (rows : List ℕ) (new : List Item) (next : Next) : Type 0 where
  pub l : Layer
  pub lower : List Layer
  pub case : IsInFlight b start
  pub at : start.height ≡ depth + length lower
  pub planned : IsPlanned start (l ∷ lower)
  pub held : AreAllHeld start s.tree.table.words (was_seen (taken_by start (l ∷ lower))) (l ∷ lower)
  pub ledger : IsLedger b s book (taken_by start (l ∷ lower)) []
  pub left : c.ways.left.items ≡ path_in start.tree.table start.tree.root l.from
  pub right : c.ways.right.items ≡ path_in start.tree.table start.tree.root l.to
  pub told : AreAllFromBelow start (l ∷ lower)
  pub numbers : rows ≡ l.rows
  pub up : new ≡ heads_at start (length lower) l
  pub goes_on : IsNextDecision start.tree.table.width c.ways.left.items c.ways.right.items depth (kind_on start.tree.gapped (length lower)) l.items (length l.ends) next
  pub windows : c.windows.items ≡ windows_by start (l ∷ lower)
  pub made : c.made.items ≡ new_rows_of s.tree.table (taken_by start (l ∷ lower))
  pub inner : c.inner ≡ inner_of start.tree.gapped
  pub room : 3 * (start.height + 1) + 1 ≤ length b.book.free

abbrev pub IsLevelDone : Before → Start → Sheet → Book → ℕ → Climb → List ℕ → List Item → Next → Type 0
IsLevelDone b start s book depth c rows new Empty = IsNothingLeft b start s book depth c
IsLevelDone b start s book depth c rows new AtRoot = IsLevelDrafted b start s book depth c rows new AtRoot
IsLevelDone b start s book depth c rows new RootAbove = IsLevelDrafted b start s book depth c rows new RootAbove
IsLevelDone b start s book depth c rows new InSlot = IsLevelDrafted b start s book depth c rows new InSlot
IsLevelDone b start s book depth c rows new Up = IsLevelDrafted b start s book depth c rows new Up

-- the windows of the paths on all levels above one, from the lowest up
abbrev pub windows_over : List PathStep → List PathStep → ℕ → List Window
windows_over left right zero = []
windows_over left right (suc depth) = record { first = step_at left depth; last = step_at right depth } ∷ windows_over left right depth

-- ---- where it ends

-- nothing is to be left of the tree
pub record EndsEmpty (start : Start) (layers : List Layer) (root : List Seen) (over : ℕ) (top : Top) : Type 0 where
  pub no_layers : layers ≡ []
  pub no_root : root ≡ []
  pub all : over ≡ suc start.height
  pub none : start.map ≡ []
  pub place : top.place ≡ Root
  pub word : top.word ≡ 0
  pub gap : top.gap ≡ 0

-- one node covers every index, and is the root
pub record EndsAtRoot (start : Start) (layers : List Layer) (root : List Seen) (over : ℕ) (top : Top) : Type 0 where
  pub l : Layer
  pub lower : List Layer
  pub are : layers ≡ l ∷ lower
  pub x : Span
  pub one : new_at start (length lower) l ≡ x ∷ []
  pub first : x.first ≡ 0
  pub last : x.last ≡ top_of start.tree
  pub no_root : root ≡ []
  pub above : over ≡ depth_at start (length lower)
  pub place : top.place ≡ Root
  pub word : top.word ≡ x.word
  pub gap : top.gap ≡ 0

-- a new node holds the nodes that replace the root
pub record EndsAbove (start : Start) (s : Sheet) (layers : List Layer) (root : List Seen) (over : ℕ) (top : Top) : Type 0 where
  pub l : Layer
  pub lower : List Layer
  pub are : layers ≡ l ∷ lower
  pub height : length lower ≡ start.height
  pub two : 2 ≤ length l.ends
  pub row : ℕ
  pub inside : row < first_row + start.tree.rows
  pub holds : IsNewRow s.tree.table (inner_of start.tree.gapped) row (heads_at start (length lower) l)
  pub run : MayBeCut start.tree (suc start.height) 0 (top_of start.tree + 1) (spans_from 0 (heads_at start (length lower) l))
  pub one_root : root ≡ record { height = suc start.height; at = record { first = 0; last = top_of start.tree; word = name_at row (inner_of start.tree.gapped) } } ∷ []
  pub none : over ≡ 0
  pub place : top.place ≡ Root
  pub word : top.word ≡ name_at row (inner_of start.tree.gapped)
  pub gap : top.gap ≡ 0

-- one node takes the place of one, in the slot of the node above
pub record EndsInSlot (start : Start) (layers : List Layer) (root : List Seen) (over : ℕ) (top : Top) : Type 0 where
  pub l : Layer
  pub lower : List Layer
  pub are : layers ≡ l ∷ lower
  pub depth : ℕ
  pub above : depth_at start (length lower) ≡ suc depth
  pub x : Span
  pub one : new_at start (length lower) l ≡ x ∷ []
  pub tells : heads_at start (length lower) l ≡ record { last = x.last; word = x.word; gap = top.gap } ∷ []
  pub same : row_at start.tree (suc depth) l.from ≡ row_at start.tree (suc depth) l.to
  pub no_root : root ≡ []
  pub none : over ≡ 0
  pub place : let parent = step_in start.tree.table (row_at start.tree depth l.from) l.from in top.place ≡ Slot parent.row (slot_column (slots_of start.tree.table.width (inner_of start.tree.gapped)) parent.slot)
  pub word : top.word ≡ x.word

-- The nodes of all layers are drafted, and no node is marked dead yet. The windows are those of the layers, and of whole levels
-- over them. When their nodes are marked dead, one word is to be published.
pub record HasClimbed (b : Before) (start : Start) (s : Sheet) (book : Book) (c : Climb) (top : Top) : Type 0 where
  pub layers : List Layer
  pub root : List Seen
  pub from : ℕ
  pub to : ℕ
  pub over : ℕ
  pub case : IsInFlight b start
  pub stands : Stands start.tree start.height
  pub planned : IsPlanned start layers
  pub told : AreAllFromBelow start layers
  pub held : AreAllHeld start s.tree.table.words (was_seen (root ++ taken_by start layers)) layers
  pub ledger : IsLedger b s book (root ++ taken_by start layers) []
  pub made : c.made.items ≡ new_rows_of s.tree.table (root ++ taken_by start layers)
  pub few : length (root ++ taken_by start layers) ≤ 3 * (start.height + 1) + 1
  pub order : from ≤ to
  pub within : to ≤ top_of start.tree
  pub windows : c.windows.items ≡ windows_by start layers ++ windows_above start from to over
  pub whole : (d : ℕ) → d < over → (d ≤ start.height) × (low_of start.tree d from ≡ 0) × (high_of start.tree d to ≡ top_of start.tree + 1)
  pub joined : (0 < over) → over + length layers ≡ start.height + 1
  pub names : top.row ≡ row_in top.word
  pub inner : c.inner ≡ inner_of start.tree.gapped
  pub ends : EndsEmpty start layers root over top ⊎ (EndsAtRoot start layers root over top ⊎ (EndsAbove start s layers root over top ⊎ EndsInSlot start layers root over top))
