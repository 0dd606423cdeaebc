-- Reads without the lock: which queries look for a neighbour of an index, and may have to be repeated if its leaf is found
-- marked as dead; and what a step of a cursor does to its pass (handle).
-- Source: the kernel's core-api/maple_tree, mt_next, mt_prev, mas_find_rev and mas_find.
use Rattle.std.specs.Prelude.{◌≡◌, ℕ, ◌<◌, IfOk, IfErr, Option, Result}
use Rattle.mt_tree.specs.Prelude.{Kind, greatest_of, Query, Load, Find, Next, Prev, Rfind, Range, part_of, Read, HasRead}
use Rattle.mt_base.specs.Passes as known
use Rattle.mt_read.specs.Neighbours.{WasLeftMarked, WasMoved}
use Rattle.mt_read.specs.declared.neighbours.Moved.{Moved}
use Rattle.mt_tree.specs.declared.cursors.Cursor.{Cursor}
use Rattle.mt_tree.specs.declared.trees.Tree.{Tree}
use Rattle.mt_tree.specs.Trees.{Pass, Takes, opened, pass_in}
pub use Rattle.mt_read.specs.Cursors.{HasStepped, epochs_opened}

abbrev pub IsForNeighbour : Query → Type 0
IsForNeighbour (Load index) = ⊥
IsForNeighbour (Find index max) = ⊥
IsForNeighbour (Next index max) = Unit {0}
IsForNeighbour (Prev index min) = Unit {0}
IsForNeighbour (Rfind index min) = Unit {0}

-- the query as a leaf is asked it, without a bound
abbrev pub unbounded : Kind → Query → Query
unbounded kind (Load index) = Load index
unbounded kind (Find index max) = Find index max
unbounded kind (Next index max) = Next index (greatest_of kind)
unbounded kind (Prev index min) = Prev index 0
unbounded kind (Rfind index min) = Rfind index 0

-- it is answered in at most this many steps
abbrev pub most_made : Query → ℕ
most_made (Load index) = 170
most_made (Find index max) = 175
most_made (Next index max) = 360
most_made (Prev index min) = 360
most_made (Rfind index min) = 360

-- The query was answered, by the map after some number of calls from `lo` to `hi`, in one section that was opened at `lo` and is
-- closed. Or the read gave up: more than `lo` calls have begun, and the leaf of the index, which has no answer, was found marked as
-- dead. It took few steps.
pub record HasSought (t : Tree) (p : Pass) (query : Query) (sought : Result (Read (Option Range)) Moved) (q : Pass) : Type 0 where
  pub read : IfOk sought (λ r. (k : ℕ) × known.Read (opened t) (pass_in p) r.lo r.hi k query r.value (pass_in q))
  pub section : IfOk sought (λ r. HasRead r.lo r.hi (pass_in p) (pass_in q))
  pub moved : IfErr sought (λ m. WasMoved (opened t) (pass_in p) m.lo m.begun (pass_in q))
  pub given_up : IfErr sought (λ m. HasRead m.lo m.begun (pass_in p) (pass_in q))
  pub left : IfErr sought (λ m. WasLeftMarked (unbounded (part_of p).shape.kind query) m.lo m.begun (part_of p) (part_of q))
  pub takes : Takes (most_made query) p q

-- the cursor's handle has no section open but the cursor's own
abbrev pub OwnsSection : Cursor → Type 0
OwnsSection c = c.walk.epoch ≡ (pass_in c.pass.now).standing
