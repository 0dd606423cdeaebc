-- The node that a section is at, where its walk keeps no ends of it, and what is read in a leaf then.
-- Source: the kernel's lib/maple_tree.c, mtree_lookup_walk, which goes down without the ends of nodes.
use Rattle.std.specs.Prelude.{◌≡◌, ℕ, ◌+◌, ◌*◌, ◌≤◌}
use Rattle.mt_read.specs.Prelude.{Width, Long, Short, greatest_of, kind_width, PassPart, here}
use Rattle.mt_read.specs.declared.descent.SlotPlace.{SlotPlace}
use Rattle.mt_read.specs.declared.descent.Row.{Row}
use Rattle.mt_read.specs.declared.seeks.Spot.{Spot}
use Rattle.mt_read.specs.Walks.{IsOnRow, WasRead, range_or_hole}

-- the node that the section is at, if the handle knows its ends
abbrev pub row_here : PassPart → Spot → Row
row_here q spot = record { at = spot.at; kind = spot.kind; width = spot.width; min = (here q).extent.first; max = (here q).extent.last }

-- The section is at this node.
abbrev pub IsAtSpot : PassPart → Spot → Type 0
IsAtSpot q spot = IsOnRow q (row_here q spot)

-- and the node covers the index
abbrev pub CoversHere : PassPart → ℕ → Type 0
CoversHere q index = ((here q).extent.first ≤ index) × (index ≤ (here q).extent.last)

-- how many cache lines of a node of this width are touched before it is searched
abbrev pub lines_touched : Width → ℕ
lines_touched Long = 2
lines_touched Short = 4

-- A walk that keeps no ends takes at most this many steps for a node,
abbrev pub row_steps : PassPart → ℕ
row_steps q = lines_touched (kind_width q.shape.kind) + 8

-- and this many down from the node that the section is at to a leaf.
abbrev pub steps_below : PassPart → ℕ
steps_below q = row_steps q * (here q).extent.level

-- The node is a leaf.
pub record IsAtLeaf (q : PassPart) (leaf : Spot) : Type 0 where
  pub on : IsAtSpot q leaf
  pub level : (here q).extent.level ≡ 0

-- The place that holds the index in the leaf that the section is at was read: it has this word, and 0 is a hole's.
pub record EntryRead (q q' : PassPart) (index entry : ℕ) : Type 0 where
  pub place : SlotPlace
  pub from : place.first ≤ index
  pub to : index ≤ place.last
  pub within : place.last ≤ greatest_of q.shape.kind
  pub read : WasRead q q' place (range_or_hole place entry)
