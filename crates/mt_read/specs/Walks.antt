-- What a pass (handle) knows of the node that its section is at, and how far a walk brings it.
-- Source: the kernel's lib/maple_tree.c, mtree_range_walk, by which readers walk beside a writer.
use Rattle.std.specs.Prelude.{◌≡◌, ℕ, suc, ◌*◌, ◌<◌, ◌≤◌, ◌==◌, List, ◌∷◌, Option, Some, None, length, min, if◌then◌else◌, slice_get}
use mathlib.Core.Option.{some}
use lib.ListN.{get_elem?}
use Rattle.mt_read.specs.Prelude.{Kind, Range, Begins, greatest_of, kind_width, slots_of, Held, copy_of, HasRow, Shape, spans_at, inner_kind, PassPart, IsRowAt, IsAt, IsLeafRead, Reads, here, kind_of, spans_here, with_seen}
use Rattle.mt_read.specs.declared.descent.Row.{Row}
use Rattle.mt_read.specs.declared.descent.SlotPlace.{SlotPlace}

-- the index that a walk goes to: the greatest of a tree of this kind, where an index is above that
abbrev pub sought : Kind → ℕ → ℕ
sought kind index = min index (greatest_of kind)

-- the handle has only seen more
abbrev pub SeesMore : PassPart → PassPart → Type 0
SeesMore q q' = Reads q q' (with_seen q q'.seen)

-- the section holds the node, below the one that it is at
abbrev pub IsUnder : PassPart → Held → Type 0
IsUnder q x = (j : ℕ) × (get_elem? q.held (suc j) ≡ some x)

-- Within its section the handle has gone on: it has seen more, and holds other nodes, and those that it held below the one that
-- it was at. These are now the dead marks that it has loaded.
pub record GoesOnTo (q q' : PassPart) (marks : List ℕ) : Type 0 where
  pub is : q' ≡ record q { seen = q'.seen; floor = q'.floor; held = q'.held; risen = q'.risen; marks = marks; steps = q'.steps }
  pub seen : Begins q.seen q'.seen
  pub risen : q.risen ≤ q'.risen
  pub under : (x : Held) → IsUnder q x → IsUnder q' x

-- It has gone on, and has loaded no dead mark.
abbrev pub GoesOn : PassPart → PassPart → Type 0
GoesOn q q' = GoesOnTo q q' q.marks

-- It has gone on, and has loaded the dead mark of the node x and no other: more calls have begun than the map had seen at the
-- load of the root from which x was reached.
pub record WasMarked (x : Held) (q q' : PassPart) : Type 0 where
  pub goes : GoesOnTo q q' (x.row ∷ q.marks)
  pub begun : x.since < q'.risen

-- The section is at this node, and has a copy of its words in which it fills its extent.
pub record IsOnRow (q : PassPart) (row : Row) : Type 0 where
  pub at : IsAt q
  pub number : row.at.number ≡ (here q).row
  pub base : IsRowAt (kind_width q.shape.kind) row.at
  pub kind : row.kind ≡ kind_of q (here q)
  pub wide : row.width ≡ kind_width q.shape.kind
  pub min : row.min ≡ (here q).extent.first
  pub max : row.max ≡ (here q).extent.last
  pub within : (here q).extent.last ≤ greatest_of q.shape.kind
  pub has : HasRow q.shape.rows (here q).row
  pub old : (here q).since ≤ (here q).met
  pub met : (here q).met ≤ length q.seen
  pub width : (here q).width ≡ kind_width q.shape.kind
  pub shape : Shape q.shape.kind (copy_of (here q)) (here q).row (here q).extent

-- The section is at this leaf.
pub record IsOnLeaf (q : PassPart) (leaf : Row) : Type 0 where
  pub on : IsOnRow q leaf
  pub level : (here q).extent.level ≡ 0

-- A walk down from the node that the section is at takes at most this many steps: for each level as many as an inner node has
-- slots.
abbrev pub steps_down : PassPart → ℕ
steps_down q = slots_of (kind_width q.shape.kind) (inner_kind q.shape.kind) * (here q).extent.level

-- The section holds the node that it held, of which it may know more.
pub record IsSameHold (x y : Held) : Type 0 where
  pub is : y ≡ record x { width = y.width; copy = y.copy; died = y.died }

-- This place of the node that the section is at is in use.
pub record IsPlaceIn (q : PassPart) (place : SlotPlace) : Type 0 where
  pub word : ℕ
  pub stands : slice_get (spans_here q (here q)) place.slot ≡ Some (record { first = place.first; last = place.last; word = word })

-- what a place has, by its word: a range, or none if it is a hole
abbrev pub range_or_hole : SlotPlace → ℕ → Option Range
range_or_hole place entry = if entry == 0 then None else Some (record { first = place.first; last = place.last; entry = entry })

-- The place of a leaf was read, as the leaf had it after some number of calls: a range, or none where it is a hole.
pub record WasRead (q q' : PassPart) (place : SlotPlace) (found : Option Range) : Type 0 where
  pub read : IsLeafRead q' (here q) (here q')
  pub entry : ℕ
  pub stands : slice_get (spans_at q'.shape.kind (copy_of (here q')) (here q).row (here q).extent) place.slot ≡ Some (record { first = place.first; last = place.last; word = entry })
  pub found_is : found ≡ range_or_hole place entry
