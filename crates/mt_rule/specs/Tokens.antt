-- Whose a pass (handle), a pen and a note are, and what they represent.
-- Source: this project's own.
use Rattle.std.specs.Prelude.{◌≡◌, ℕ, ◌+◌, ◌≤◌, List, [], false, Some, None, Contains}
use Rattle.atomic_table.specs.Seated.{TableId}
use Rattle.atomic_table.specs.declared.badge.Badge.{Badge}
use Rattle.mt_rule.specs.Prelude.{Kind, Record, History, Sheet, Holder, Extent, IsLawfulOf, most_calls, most_passes}
use Rattle.mt_base.specs.Passes as known
use Rattle.mt_rule.specs.declared.views.Shape.{Shape}
use Rattle.mt_rule.specs.declared.views.PenPart.{PenPart}
use Rattle.mt_rule.specs.declared.views.PassPart.{PassPart}
use Rattle.mt_rule.specs.declared.views.TurnView.{TurnView}
use Rattle.mt_rule.specs.declared.views.View.{View}
use Rattle.mt_rule.specs.declared.table.MtTable.{MtTable}
use Rattle.mt_rule.specs.declared.passes.Pass.{Pass}
use Rattle.mt_rule.specs.declared.pens.Pen.{Pen}
use Rattle.mt_rule.specs.declared.notes.Note.{Note}
use Rattle.mt_rule.specs.Seats.{shape_told, shape_opening, records_of, tree_of, known_by, pen_of, pass_of, note_of, pass_or, part_in, HasPass}
use Rattle.mt_rule.specs.Rule.{IsSoundPen}

-- ---- tables

-- which table of nodes it is, and what it got when it was made
pub record Identity : Type 0 where
  pub table : TableId
  pub shape : Shape

abbrev pub identity_of : MtTable → Identity
identity_of t = record { table = t.table.shared.table_id; shape = shape_told t.table.shared.key }

-- the tree of this table where it has no call yet
abbrev pub tree_in : Identity → History
tree_in t = tree_of t.shape []

-- A tree may open with these nodes: no call was begun on them, and they are well-formed (well-formed). It has at least one
-- handle.
pub record MayOpen (kind : Kind) (s : Sheet) (passes calls : ℕ) : Type 0 where
  pub none : s.ended ≡ 0
  pub idle : s.in_flight ≡ false
  pub lawful : IsLawfulOf s.tree kind
  pub some_pass : 1 ≤ passes
  pub few_passes : passes ≤ most_passes
  pub some_call : 1 ≤ calls
  pub few_calls : calls ≤ most_calls

-- what its table gets when it is made
abbrev pub shape_opened : Kind → Sheet → ℕ → ℕ → Shape
shape_opened kind s passes calls = shape_opening kind s.tree passes calls

-- ---- passes (handles)

-- its seat at the table, and its seat at the turn (the writer lock)
abbrev pub tree_seat : Pass → Badge View
tree_seat p = p.seat

abbrev pub turn_seat : Pass → Badge TurnView
turn_seat p = p.turn

abbrev pub part_of : Pass → PassPart
part_of p = pass_or (part_in (tree_seat p).views)

-- what a handle knows
abbrev pub pass_in : Pass → known.Pass
pass_in p = known_by (part_of p)

-- how many steps it has made without the lock: each of those by which it reads is one
abbrev pub steps_made : Pass → ℕ
steps_made p = (part_of p).steps

-- It has made as many steps as the ledger has risen by.
abbrev pub IsCounted : Pass → Pass → ℕ → ℕ → Type 0
IsCounted p p' steps steps' = steps_made p' + steps ≡ steps_made p + steps'

-- the table of a handle that is not away
abbrev pub identity_of_pass : Pass → Identity
identity_of_pass p = record { table = (tree_seat p).table_id; shape = (part_of p).shape }

-- The handle is one of this table's, and not away.
pub record IsPassOf (t : Identity) (p : Pass) : Type 0 where
  pub here : part_in (tree_seat p).views ≡ Some (part_of p)
  pub of : identity_of_pass p ≡ t

-- The handle has made a step of its own, and its seat at the turn is as it was.
pub record Stepped (t : Identity) (p p' : Pass) : Type 0 where
  pub of : IsPassOf t p'
  pub turn : turn_seat p' ≡ turn_seat p

-- ---- the pen

abbrev pub pen_in : Pen → PenPart
pen_in p = pen_of p.seat.me.0

abbrev pub identity_of_pen : Pen → Identity
identity_of_pen p = record { table = p.seat.table_id; shape = (pen_in p).shape }

abbrev pub IsPenOf : Identity → Pen → Type 0
IsPenOf t p = identity_of_pen p ≡ t

-- no handle is joined with the pen
abbrev pub IsAlone : Pen → Type 0
IsAlone p = p.seat.me.0.pass ≡ None

-- what the handle that is joined with the pen knows
abbrev pub joined_part : Pen → PassPart
joined_part p = pass_of p.seat.me.0

abbrev pub joined_in : Pen → known.Pass
joined_in p = known_by (joined_part p)

abbrev pub joined_turn : Pen → Badge TurnView
joined_turn p = p.turn

-- A handle of the pen's table is joined with it, and has seen the whole history and its own calls there.
pub record IsJoined (p : Pen) : Type 0 where
  pub has : HasPass p.seat.me.0
  pub shape : (joined_part p).shape ≡ (pen_in p).shape
  pub seen : (joined_part p).seen ≡ (pen_in p).history
  pub mine : (joined_part p).mine ≡ known.places (joined_part p).number (records_of (pen_in p).history)

-- The pen goes on with the same handle, which knows what it knew.
pub record KeepsPassOf (t : Identity) (a b : Pen) : Type 0 where
  pub of : IsPenOf t b
  pub joined : IsJoined b
  pub pass : joined_part b ≡ joined_part a
  pub turn : joined_turn b ≡ joined_turn a

-- What the lock shows to the handle that is joined with the pen: the whole history, which is one legal history of the table's
-- handles, and the nodes as they are. Each section of its own that was found open is one that it opened.
pub record WasShown (tree : History) (pen : PenPart) (p q : known.Pass) : Type 0 where
  pub saw : known.Saw tree p q
  pub all : q.seen ≡ records_of pen.history
  pub opened : (h : Holder) → Contains pen.loaded h → h.pass ≡ q.number → Contains q.opened h.epoch
  pub extents : ℕ → Extent
  pub sound : IsSoundPen extents pen

-- ---- notes

-- what a note holds
abbrev pub note_in : Note → List Record
note_in n = records_of (note_of n.seat.me.0).seen

abbrev pub IsNoteOf : Identity → Note → Type 0
IsNoteOf t n = n.seat.table_id ≡ t.table
