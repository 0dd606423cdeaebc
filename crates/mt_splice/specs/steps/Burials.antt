-- Nodes buried and retired one after the other: what is done to the nodes and to the book.
-- Source: the kernel's lib/maple_tree.c, mas_topiary_replace, which marks the nodes that a new subtree replaces.
use Rattle.std.specs.Prelude.{◌≡◌, ℕ, ◌+◌, ◌-◌, ◌<◌, ◌≤◌, List, [], ◌∷◌, ◌++◌, All, IsSome, length, map}
use Rattle.mt_splice.specs.Prelude.{greatest, Book, StampedRow, IsOut, after_retire, RowKind, Span, row_in, slots_of, PathStep, path_in, step_at, level, Table, root_span, Rooted, Sheet, IsPlace, MayBury, after_bury, named_kind, span_at, row_spans}
use Rattle.mt_splice.specs.declared.burying.Child.{Child}
use Rattle.mt_splice.specs.declared.ways.Window.{Window}
use Rattle.mt_splice.specs.steps.Windows.{between}

-- ---- nodes by their numbers

abbrev pub after_burials : Sheet → List ℕ → Sheet
after_burials s [] = s
after_burials s (row ∷ rows) = after_burials (after_bury s row) rows

abbrev pub after_retirals : Book → List ℕ → ℕ → Book
after_retirals book [] number = book
after_retirals book (row ∷ rows) number = after_retirals (after_retire book row number) rows number

-- a live row that is out may be buried, and retired with this number
pub record MayBeBuried (s : Sheet) (book : Book) (row number : ℕ) : Type 0 where
  pub live : MayBury s row
  pub out : IsOut book row
  pub in_order : All (λ (h : StampedRow). h.stamp ≤ number) book.held

-- so may each of these rows, when those in front of it were
abbrev pub EachInTurn : Sheet → Book → List ℕ → ℕ → Type 0
EachInTurn s book [] number = Unit {0}
EachInTurn s book (row ∷ rows) number = MayBeBuried s book row number × EachInTurn (after_bury s row) (after_retire book row number) rows number

pub record MayBeBuriedInTurn (s : Sheet) (book : Book) (rows : List ℕ) (number : ℕ) : Type 0 where
  pub each : EachInTurn s book rows number

-- ---- nodes by their places

-- the nodes of a level from the left, the root's level being 0
abbrev pub rows_on : Rooted → ℕ → List Span
rows_on t depth = level t.table depth (root_span t.table t.root ∷ [])

-- the numbers of those from the one that holds an index to the one that holds another
abbrev pub numbers_between : Rooted → ℕ → ℕ → ℕ → List ℕ
numbers_between t depth i j = map (λ (x : Span). row_in x.word) (between i j (rows_on t depth))

abbrev pub numbers_in : Rooted → ℕ → Window → List ℕ
numbers_in t depth w = numbers_between t depth w.first.min w.last.max

-- of windows on a level and on those above it, one of each
abbrev pub numbers_in_all : Rooted → ℕ → List Window → List ℕ
numbers_in_all t depth [] = []
numbers_in_all t depth (w ∷ windows) = numbers_in t depth w ++ numbers_in_all t (depth - 1) windows

-- the steps are those of the first and of the last node of a window on this level
pub record IsWindowOn (t : Rooted) (depth : ℕ) (w : Window) : Type 0 where
  pub from : ℕ
  pub to : ℕ
  pub order : from ≤ to
  pub within : to ≤ greatest t.table.width
  pub deep : depth < length (path_in t.table t.root to)
  pub first : w.first ≡ step_at (path_in t.table t.root from) depth
  pub last : w.last ≡ step_at (path_in t.table t.root to) depth

-- `first` begins a node of this level, and `last` ends one that is not before it
pub record IsStretchOn (t : Rooted) (depth first last : ℕ) : Type 0 where
  pub order : first ≤ last
  pub within : last ≤ greatest t.table.width
  pub deep : depth < length (path_in t.table t.root first)
  pub begins : (step_at (path_in t.table t.root first) depth).min ≡ first
  pub ends : (step_at (path_in t.table t.root last) depth).max ≡ last

abbrev pub AreWindowsOn : Rooted → ℕ → List Window → Type 0
AreWindowsOn t depth [] = Unit {0}
AreWindowsOn t depth (w ∷ windows) = IsWindowOn t depth w × (length windows ≤ depth) × AreWindowsOn t (depth - 1) windows

-- ---- nodes by the slots of the nodes above them

-- what a node of this kind on a way holds, and what is in the slot that the way takes
abbrev pub spans_on : Table → RowKind → PathStep → List Span
spans_on t kind step = row_spans t step.row kind step.min step.max

abbrev pub span_on : Table → RowKind → PathStep → Span
span_on t kind step = span_at (spans_on t kind step) step.slot

-- the slot is one of a node of this kind, and holds the name of a node
pub record IsSlotOfChild (t : Rooted) (kind : RowKind) (above : PathStep) : Type 0 where
  pub place : IsPlace t above.row 0
  pub used : above.slot < length (spans_on t.table kind above)
  pub few : length (spans_on t.table kind above) ≤ slots_of t.table.width kind
  pub named : IsSome (named_kind (span_on t.table kind above).word)

-- the node below this level on the path to an index, and the step above it
pub record IsChildOn (t : Rooted) (level : ℕ) (child : Child) : Type 0 where
  pub index : ℕ
  pub within : index ≤ greatest t.table.width
  pub deep : level + 1 < length (path_in t.table t.root index)
  pub above : child.above ≡ step_at (path_in t.table t.root index) level
  pub last : child.last ≡ (step_at (path_in t.table t.root index) (level + 1)).max

-- a way leads to the node of this step, by whatever slot of it
pub record LeadsTo (t : Rooted) (level : ℕ) (way : List PathStep) (step : PathStep) : Type 0 where
  pub index : ℕ
  pub within : index ≤ greatest t.table.width
  pub way_is : way ≡ path_in t.table t.root index
  pub ends : (step_at way level).max ≡ step.max
