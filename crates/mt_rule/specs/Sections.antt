-- What a handle that reads without the lock learns from its steps.
-- Source: this project's own; the kernel's readers walk between rcu_read_lock and rcu_read_unlock.
use Rattle.std.specs.Prelude.{◌≡◌, ◌≢◌, ℕ, ◌+◌, ◌*◌, ◌<◌, ◌≤◌, ◌==◌, List, [], ◌∷◌, ◌++◌, Option, Some, None, length, slice_index, slice_get, if◌then◌else◌}
use mathlib.Core.Option.{none, some}
use lib.ListN.{get_elem?}
use Rattle.atomic_table.specs.Table.{Allows, Step, step}
use Rattle.mt_rule.specs.Prelude.{Long, IsMap, Begins, kind_width, greatest, deepest, RowKind, Span, slot_column, dead_mark, named_kind, row_in, slots_of, Held, Snapshot, copy_of, HasPart, HasRow, SameForm, Shape, spans_at, kind_at, inner_kind, most_calls}
use Rattle.mt_base.specs.Passes as known
use Rattle.mt_life.specs.declared.views.Moment as life
use Rattle.mt_rule.specs.declared.views.Moment.{Moment}
use Rattle.mt_rule.specs.declared.views.PassPart.{PassPart}
use Rattle.mt_rule.specs.declared.views.TableStart.{TableStart}
use Rattle.mt_rule.specs.Places.{column_at}
use Rattle.mt_rule.specs.Rule.{IsKept}
use Rattle.mt_rule.specs.Seats.{HasPass, known_by, moment_at, pass_of, tree_of}
use Rattle.mt_rule.specs.Steps.{Seat}

-- ---- the nodes that a section holds

abbrev pub no_held : Held
no_held = record { row = 0; since = 0; met = 0; extent = record { first = 0; last = 0; level = 0 }; width = Long; copy = []; died = None }

-- the node that the section reached last
abbrev pub first_held : List Held → Held
first_held [] = no_held
first_held (x ∷ xs) = x

abbrev pub here : PassPart → Held
here q = first_held q.held

-- the section is at a node
abbrev pub IsAt : PassPart → Type 0
IsAt q = get_elem? q.held 0 ≡ some (here q)

abbrev pub held_behind : List Held → List Held
held_behind [] = []
held_behind (x ∷ xs) = xs

-- the map after the first k calls that the handle has seen, and where its leaves began
abbrev pub moment_seen : PassPart → ℕ → life.Moment
moment_seen q k = moment_at q.shape q.seen k

-- the kind of the node that is held
abbrev pub kind_of : PassPart → Held → RowKind
kind_of q x = kind_at q.shape.kind x.extent.level

-- how many slots it has
abbrev pub slots_in : PassPart → Held → ℕ
slots_in q x = slots_of (kind_width q.shape.kind) (kind_of q x)

-- what stood in the node, by the section's copy of it
abbrev pub spans_here : PassPart → Held → List Span
spans_here q x = spans_at q.shape.kind (copy_of x) x.row x.extent

-- The node that was reached, by this name, on a walk from a root that was loaded after `since` calls.
pub record Comes (q : PassPart) (x : Held) (name since : ℕ) : Type 0 where
  pub row : x.row ≡ row_in name
  pub named : named_kind name ≡ Some (kind_of q x)
  pub has : HasRow q.shape.rows x.row
  pub since_is : x.since ≡ since
  pub old : x.since ≤ x.met
  pub met : x.met ≤ length q.seen
  pub width : x.width ≡ kind_width q.shape.kind
  pub shape : Shape q.shape.kind (copy_of x) x.row x.extent

-- The leaf x as it is known now, y: it has what the map had there after k calls, no fewer than when the root was loaded; after
-- all calls, unless the leaf was found dead.
pub record IsLeafRead (q : PassPart) (x y : Held) : Type 0 where
  pub same : y ≡ record x { width = y.width; copy = y.copy; died = y.died }
  pub k : ℕ
  pub low : x.since ≤ k
  pub high : k ≤ length q.seen
  pub now : y.died ≡ None → k ≡ length q.seen
  pub width : y.width ≡ x.width
  pub form : SameForm (copy_of x) (copy_of y) (kind_of q x) x.row
  pub shape : Shape q.shape.kind (copy_of y) x.row x.extent
  pub map : IsMap q.shape.kind (moment_seen q k).ranges
  pub part : HasPart q.shape.kind (copy_of y) x.row x.extent (moment_seen q k)

-- What a node's parent word shows. If it is the dead mark, more calls have begun than the map had seen at the load of the root.
-- If not, the node was not found dead before, and a leaf of its form had what the map had after each number of calls since it
-- was reached.
pub record ParentTells (q : PassPart) (x : Held) (word : ℕ) : Type 0 where
  pub dead : word ≡ dead_mark x.row → x.since + 1 ≤ q.risen
  pub live : word ≢ dead_mark x.row → x.died ≡ None
  pub past : word ≢ dead_mark x.row → x.extent.level ≡ 0 → (k : ℕ) → x.met ≤ k → k ≤ length q.seen → Snapshot q.shape.kind x (moment_seen q k)

-- ---- what steps show, by what the handle knew before and knows afterwards

-- the handle with what it has seen since
abbrev pub with_seen : PassPart → List Moment → PassPart
with_seen q seen = record q { seen = seen }

-- The handle is now this one, except for how many steps it has made.
abbrev pub HasBecome : PassPart → PassPart → Type 0
HasBecome q' part = q' ≡ record part { steps = q'.steps }

-- The handle is now this one, and has seen no less than it had.
pub record Reads (q q' part : PassPart) : Type 0 where
  pub is : HasBecome q' part
  pub seen : Begins q.seen q'.seen

-- How many calls have ended.
pub record LoadedCommits (found : ℕ) (q q' : PassPart) : Type 0 where
  pub reads : Reads q q' (record (with_seen q q'.seen) { epoch = found; ended = found })
  pub before : q.ended ≤ found
  pub most : found ≤ length q'.seen
  pub least : length q'.seen ≤ found + 1
  pub few : found ≤ most_calls

-- The section is open at the epoch that was loaded last.
abbrev pub opened_section : PassPart → PassPart
opened_section q = record q { opened = q.opened ++ q.epoch ∷ []; standing = Some q.epoch; floor = None; held = []; steps = q.steps + 1 }

-- The section is closed.
abbrev pub closed_section : PassPart → PassPart
closed_section q = record q { standing = None; floor = None; held = []; steps = q.steps + 1 }

-- A word of no interest was loaded.
abbrev pub touched : PassPart → PassPart
touched q = record q { steps = q.steps + 1 }

abbrev pub floor_or : Option ℕ → ℕ → Option ℕ
floor_or None n = Some n
floor_or (Some floor) n = Some floor

-- The root word is 0, and the map is empty.
pub record LoadedNoRoot (q q' : PassPart) : Type 0 where
  pub reads : Reads q q' (with_seen q q'.seen)
  pub empty : (moment_seen q' (length q'.seen)).ranges ≡ []

-- The section is at the root node.
pub record LoadedRootRow (found : ℕ) (q q' : PassPart) : Type 0 where
  pub reads : Reads q q' (record (with_seen q q'.seen) { floor = floor_or q.floor (length q'.seen); held = here q' ∷ q.held })
  pub at : IsAt q'
  pub comes : Comes q' (here q') found (length q'.seen)
  pub first : (here q').extent.first ≡ 0
  pub last : (here q').extent.last ≡ greatest (kind_width q'.shape.kind)
  pub level : slots_of (kind_width q'.shape.kind) (inner_kind q'.shape.kind) * (here q').extent.level ≤ 128
  pub low : (here q').extent.level < deepest

pub record LoadedRoot (found : ℕ) (q q' : PassPart) : Type 0 where
  pub empty : found ≡ 0 → LoadedNoRoot q q'
  pub row : found ≢ 0 → LoadedRootRow found q q'

-- A pivot of the node that the section is at, which is as when the node was reached.
pub record LoadedPivot (word found : ℕ) (q q' : PassPart) : Type 0 where
  pub reads : Reads q q' (with_seen q q'.seen)
  pub found_is : found ≡ slice_index (here q).copy word

-- A slot of the leaf that the section is at.
pub record LoadedEntry (word found : ℕ) (q q' : PassPart) : Type 0 where
  pub reads : Reads q q' (record (with_seen q q'.seen) { held = here q' ∷ held_behind q.held })
  pub read : IsLeafRead q' (here q) (here q')
  pub found_is : found ≡ slice_index (here q').copy word

-- A slot of the inner node that the section is at: the section reaches the child that covers exactly what the slot does.
pub record LoadedChild (word found : ℕ) (q q' : PassPart) : Type 0 where
  pub reads : Reads q q' (record (with_seen q q'.seen) { held = here q' ∷ q.held })
  pub at : IsAt q'
  pub comes : Comes q' (here q') found (here q).since
  pub level : (here q').extent.level + 1 ≡ (here q).extent.level
  pub covers : (i : ℕ) (x : Span) → word ≡ column_at (kind_width q.shape.kind) (here q).row (slot_column (slots_in q (here q)) i)
      → slice_get (spans_here q (here q)) i ≡ Some x → ((here q').extent.first ≡ x.first) × ((here q').extent.last ≡ x.last)

pub record LoadedSlot (word found : ℕ) (q q' : PassPart) : Type 0 where
  pub entry : (here q).extent.level ≡ 0 → LoadedEntry word found q q'
  pub child : (here q).extent.level ≢ 0 → LoadedChild word found q q'

-- the nodes whose dead marks were loaded, where a node's parent word was found so
abbrev pub marks_with : ℕ → ℕ → List ℕ → List ℕ
marks_with row found marks = if found == dead_mark row then row ∷ marks else marks

-- The parent word of this node, for each hold of it.
pub record LoadedParent (row word found : ℕ) (q q' : PassPart) : Type 0 where
  pub reads : Reads q q' (record (with_seen q q'.seen) { risen = q'.risen; marks = marks_with row found q.marks })
  pub risen : q.risen ≤ q'.risen
  pub tells : (j : ℕ) (x : Held) → get_elem? q.held j ≡ some x → word ≡ column_at (kind_width q.shape.kind) x.row 0 → ParentTells q' x found

-- How many calls have begun: no fewer than the handle knows of. What it has seen is one legal history.
pub record LoadedBegun (found : ℕ) (q q' : PassPart) : Type 0 where
  pub is : q' ≡ record q { begun = found; steps = q.steps + 1 }
  pub seen : length q.seen ≤ found
  pub before : q.begun ≤ found
  pub risen : q.risen ≤ found
  pub sound : known.IsSound (tree_of q'.shape []) (known_by q')

-- ---- the plays

-- Nothing else of the seat has changed, and the handle is the one that it was. It has made one step more.
pub record OfPass (me me' : Seat) : Type 0 where
  pub view : me'.0 ≡ record me.0 { pass = Some (pass_of me'.0) }
  pub slots : me'.1 ≡ me.1
  pub shape : (pass_of me'.0).shape ≡ (pass_of me.0).shape
  pub number : (pass_of me'.0).number ≡ (pass_of me.0).number
  pub counted : (pass_of me'.0).steps ≡ (pass_of me.0).steps + 1

abbrev pub opens_section : Step (Unit {0}) → Seat → ℕ → Seat → Type 0
opens_section step me found me' = OfPass me me' × (pass_of me'.0 ≡ opened_section (pass_of me.0))

abbrev pub closes_section : Step (Unit {0}) → Seat → ℕ → Seat → Type 0
closes_section step me found me' = OfPass me me' × (pass_of me'.0 ≡ closed_section (pass_of me.0))

-- A word was loaded. What that tells goes by the word's place, what was found, and the handle before and after.
abbrev pub loads_word : (ℕ → ℕ → PassPart → PassPart → Type 0) → Step (Unit {0}) → Seat → ℕ → Seat → Type 0
loads_word tells step me found me' = OfPass me me' × tells step.word found (pass_of me.0) (pass_of me'.0)

-- a load that tells no more than that the handle is another
abbrev pub touches : ℕ → ℕ → PassPart → PassPart → Type 0
touches word found q q' = q' ≡ touched q

-- A handle that knows this may load the word at this place. The load keeps the rule, and tells what it is said to tell.
abbrev pub MayLoadWord : (ℕ → ℕ → PassPart → PassPart → Type 0) → TableStart → ℕ → PassPart → Type 0
MayLoadWord tells told word q = (slots by : ℕ) (me : Seat) → HasPass me.0 → pass_of me.0 ≡ q → Allows (IsKept told) slots by me word (λ n. n) (loads_word tells (step slots word 0 0 none) me)
