-- Why a read is given up, and what is left of it.
-- Source: this project's own; the kernel's mas_next begins again at the root where it finds a node dead.
use Rattle.std.specs.Prelude.{◌≡◌, ◌≢◌, ℕ, ◌+◌, ◌-◌, ◌<◌, ◌≤◌, List, ◌∷◌, None, length, nat_lt, if◌then◌else◌, flat_map}
use Rattle.mt_read.specs.Prelude.{Kind, Range, Query, Load, Find, Next, Prev, Rfind, answer, History, greatest_of, leaf_range, Held, PassPart, here, spans_here}
use Rattle.mt_base.specs.Passes as known
use Rattle.mt_read.specs.declared.descent.SlotPlace.{SlotPlace}
use Rattle.mt_read.specs.Walks.{GoesOn, IsSameHold, IsUnder, WasMarked, WasRead, sought}
use Rattle.mt_read.specs.Windows.{Began, Ended}

-- ---- a leaf and the leaf beside it

-- a leaf that covers the index
abbrev pub IsLeafOver : Held → ℕ → Type 0
IsLeafOver x index = (x.extent.level ≡ 0) × (x.extent.first ≤ index) × (index ≤ x.extent.last)

-- the section is at the leaf after x, and at the leaf before it
abbrev pub IsBehind : PassPart → Held → Type 0
IsBehind q x = (x.extent.last < greatest_of q.shape.kind) × IsLeafOver (here q) (x.extent.last + 1)

abbrev pub IsLeafBefore : PassPart → Held → Type 0
IsLeafBefore q x = (x.extent.first ≢ 0) × IsLeafOver (here q) (x.extent.first - 1)

-- The section has gone from the leaf x to the leaf beside it. The handle has then loaded the dead mark of x, and no other.
pub record MarkedBeside (IsBeside : PassPart → Held → Type 0) (x : Held) (q q' : PassPart) : Type 0 where
  pub marked : WasMarked x q q'
  pub under : IsUnder q' x
  pub beside : IsBeside q' x

-- The place is the first of the leaf that the section was at, and was read: it is a hole. Then the section has gone to the leaf
-- before that one, and the handle has loaded the dead mark of the first leaf, and no other.
pub record LeftHole (place : SlotPlace) (q q' : PassPart) : Type 0 where
  pub read : PassPart
  pub first : place.slot ≡ 0
  pub goes : GoesOn q read
  pub same : IsSameHold (here q) (here read)
  pub hole : WasRead q read place None
  pub beside : MarkedBeside IsLeafBefore (here read) read q'

-- ---- a read that is given up

-- the ranges in the leaf
abbrev pub ranges_here : PassPart → Held → List Range
ranges_here q x = flat_map leaf_range (spans_here q x)

-- the index that is asked about
abbrev pub query_index : Query → ℕ
query_index (Load index) = index
query_index (Find index max) = index
query_index (Next index max) = index
query_index (Prev index min) = index
query_index (Rfind index min) = index

-- The query as it is put to a tree of this kind. From an index above the greatest one, a neighbour is sought at the greatest.
-- None begins after that, and the last that ends below the index is the last that begins at the greatest or below.
abbrev pub asked : Kind → Query → Query
asked kind (Load index) = Load index
asked kind (Find index max) = Find index max
asked kind (Next index max) = Next (sought kind index) max
asked kind (Prev index min) = if nat_lt (greatest_of kind) index then Rfind (greatest_of kind) min else Prev index min
asked kind (Rfind index min) = Rfind (sought kind index) min

-- where the answer is looked for that the leaf of the index does not have
abbrev pub IsAside : Query → PassPart → Held → Type 0
IsAside (Load index) q x = ⊥
IsAside (Find index max) q x = ⊥
IsAside (Next index max) q x = IsBehind q x
IsAside (Prev index min) q x = IsLeafBefore q x
IsAside (Rfind index min) q x = IsLeafBefore q x

-- A walk from a root that was loaded after at least `least` calls brought the section to the leaf x. It covers the index, and
-- none of its ranges answers. Then the section went to the leaf beside it. Then the dead mark of x was loaded, and no other.
pub record LeftMarked (query : Query) (least : ℕ) (q q' : PassPart) : Type 0 where
  pub x : Held
  pub since : least ≤ x.since
  pub over : IsLeafOver x (query_index query)
  pub none : answer (ranges_here q' x) query ≡ None
  pub beside : MarkedBeside (IsAside query) x q q'

-- The handle has opened a section at `lo`, has left a leaf in it that it then found marked, and has closed it. The leaf covers
-- the index of the query.
pub record WasLeftMarked (query : Query) (lo begun : ℕ) (q q' : PassPart) : Type 0 where
  pub opened : PassPart
  pub left : PassPart
  pub began : Began lo q opened
  pub marked : LeftMarked (asked q.shape.kind query) (length opened.seen) opened left
  pub ended : Ended begun left q'
  pub marks : q'.marks ≡ marked.x.row ∷ q.marks

-- The handle knows no less than before, and that more than `lo` calls have begun: one that was in flight before counts too.
pub record WasMoved (tree : History) (p : known.Pass) (lo begun : ℕ) (q : known.Pass) : Type 0 where
  pub grows : known.Grows p q
  pub floor : length p.seen ≤ lo + 1
  pub before : p.ended ≤ lo
  pub later : lo < begun
  pub sound : known.IsSound tree q
