-- What the steps of the pen, alone or with a pass (handle), show to the seat that makes them.
-- Source: this project's own; the order of a write's steps is that of the kernel's mas_replace_node.
use Rattle.std.specs.Prelude.{◌≡◌, ◌≢◌, ℕ, ◌+◌, ◌/◌, ◌≤◌, ◌==◌, ◌∷◌, ◌++◌, [], List, Some, None, max, length, slice_index, slice_set, true, false, if◌then◌else◌}
use Rattle.atomic_table.specs.Table.{Me, Step}
use Rattle.mt_rule.specs.Prelude.{Call, Holder, Reply, Begins, kind_width, dead_mark, Extent, cuts_by, Draft, Place, Published, IsWhole, most_calls}
use Rattle.mt_base.specs.Passes as known
use Rattle.mt_rule.specs.declared.views.Moment.{Moment}
use Rattle.mt_rule.specs.declared.views.View.{View}
use Rattle.mt_rule.specs.declared.views.PenPart.{PenPart}
use Rattle.mt_rule.specs.declared.views.PassPart.{PassPart}
use Rattle.mt_rule.specs.declared.views.NotePart.{NotePart}
use Rattle.mt_rule.specs.Places.{column_at, section_word, IsSectionWord}
use Rattle.mt_rule.specs.Seats.{moment, pen_of, pass_of, note_of, known_by, longer_history, records_of, tree_of, rooted_in, pen_sheet, cuts_at, HasPass}
use Rattle.mt_rule.specs.Rule.{IsSoundPen, PassFits}

-- ---- what steps make of the parts

-- a handle that has seen all that the pen knows, while no call is in flight
abbrev pub all_seen : PenPart → PassPart → PassPart
all_seen p q = record q { seen = p.history; ended = p.ended }

-- a call was begun, in which no section word was loaded yet
abbrev pub pen_begun : PenPart → PenPart
pen_begun p = record p { in_flight = true; published = false; sections = [] }

-- a column of a node was written, which is then a draft
abbrev pub pen_drafted : ℕ → ℕ → ℕ → PenPart → PenPart
pen_drafted row col word p = record p { words = slice_set p.words (column_at (kind_width p.shape.kind) row col) word; lives = slice_set p.lives row Draft }

-- a live node was given its dead mark
abbrev pub pen_buried : ℕ → PenPart → PenPart
pen_buried row p = record p { words = slice_set p.words (column_at (kind_width p.shape.kind) row 0) (dead_mark row); buried = slice_set p.buried row true }

-- the parent word or a gap word of a live node was written
abbrev pub pen_tended : ℕ → ℕ → ℕ → PenPart → PenPart
pen_tended row col word p = record p { words = slice_set p.words (column_at (kind_width p.shape.kind) row col) word }

-- A section word was loaded. If the section was closed, all nodes that are dead now are out of that handle's reach. If it was
-- open, those that died up to its epoch are.
abbrev pub raised : ℕ → ℕ → ℕ → ℕ
raised ended was found = if found == 0 then ended else max was (found / 2)

abbrev pub with_loaded : ℕ → ℕ → List Holder → List Holder
with_loaded pass found loaded = if found == 0 then loaded else record { pass = pass; epoch = found / 2 } ∷ loaded

abbrev pub pen_scanned : ℕ → ℕ → PenPart → PenPart
pen_scanned pass found p = record p {
  cleared = slice_set p.cleared pass (raised p.ended (slice_index p.cleared pass) found);
  loaded = with_loaded pass found p.loaded;
  sections = p.sections ++ record { pass = pass; word = found } ∷ [];
}

-- a call was published: it is the last of the history, which now has these words and lives
abbrev pub pen_published : Moment → PenPart → PenPart → PenPart
pen_published m after p = record p { history = p.history ++ m ∷ []; published = true; root = after.root; words = after.words; lives = after.lives; buried = after.buried }

-- a call ended: it is in the history from when it published, or from now on
abbrev pub pen_ended : Moment → PenPart → PenPart
pen_ended m p = record p { history = (if p.published then p.history else p.history ++ m ∷ []); ended = p.ended + 1; in_flight = false; published = false }

-- the handle whose call is in the history from now on
abbrev pub pass_recorded : Moment → PenPart → PassPart → PassPart
pass_recorded m p q = record q { seen = p.history ++ m ∷ []; mine = q.mine ++ (p.ended + 1) ∷ [] }

-- the handle whose call ended
abbrev pub pass_ended : Moment → PenPart → PassPart → PassPart
pass_ended m p q = record (if p.published then q else pass_recorded m p q) { ended = p.ended + 1 }

-- the moment of a call that has published nothing: its leaves begin where they began
abbrev pub quiet_moment : PenPart → PassPart → Call → Reply → Moment
quiet_moment p q call reply = moment q.number call reply (cuts_at p.shape p.history (length p.history))

-- a handle that has learnt what a note holds
abbrev pub taught : PassPart → NotePart → PassPart
taught q n = record q { seen = longer_history q.seen n.seen }

-- ---- what steps show

-- The handle beside the pen has now seen the whole history, all of whose calls have ended.
pub record SawAll (v : View) (found : ℕ) (w : View) : Type 0 where
  pub view : w ≡ record v { pass = Some (all_seen (pen_of v) (pass_of v)) }
  pub count : found ≡ (pen_of v).ended
  pub extents : ℕ → Extent
  pub sound : IsSoundPen extents (pen_of v)
  pub fits : PassFits extents (pen_of v) (pass_of v)

-- The handle beside the note has now seen the longer of what it had seen and what the note holds. The note is gone.
pub record Learnt (v w : View) : Type 0 where
  pub view : w ≡ record v { pass = Some (taught (pass_of v) (note_of v)); note = None }
  pub seen : Begins (pass_of v).seen (taught (pass_of v) (note_of v)).seen
  pub told : Begins (note_of v).seen (taught (pass_of v) (note_of v)).seen
  pub sound : known.IsSound (tree_of (pass_of v).shape []) (known_by (taught (pass_of v) (note_of v)))

-- A load of a column, or of the root word, changes nothing.
pub record Looked (word found : ℕ) (v w : View) : Type 0 where
  pub view : w ≡ v
  pub found_is : found ≡ slice_index (pen_of v).words word

pub record LookedAtRoot (found : ℕ) (v w : View) : Type 0 where
  pub view : w ≡ v
  pub found_is : found ≡ (pen_of v).root

-- The section word of a handle was loaded: it is of an epoch that has been reached. That of the handle beside the pen is its
-- own section's.
pub record LoadedSection (pass found : ℕ) (v w : View) : Type 0 where
  pub view : w ≡ record v { pen = Some (pen_scanned pass found (pen_of v)) }
  pub closed_or_open : IsSectionWord (pen_of v).ended found
  pub own : HasPass v → (pass_of v).number ≡ pass → found ≡ section_word (pass_of v).standing

-- The pen's part has become this.
abbrev pub Becomes : (PenPart → PenPart) → View → View → Type 0
Becomes f v w = w ≡ record v { pen = Some (f (pen_of v)) }

-- the handle's own calls are all that the history has of its number
abbrev pub HasOwnCalls : PenPart → PassPart → Type 0
HasOwnCalls p q = q.mine ≡ known.places q.number (records_of p.history)

-- What a published call has changed in what the pen and the handle know.
pub record WasPublished (call : Call) (reply : Reply) (p : PenPart) (q : PassPart) (p' : PenPart) (q' : PassPart) : Type 0 where
  pub moment : Moment
  pub moment_is : moment ≡ record { pass = q.number; call = call; reply = reply; cuts = cuts_by (rooted_in p') }
  pub pen : p' ≡ pen_published moment p' p
  pub pass : q' ≡ pass_recorded moment p q

-- The word was published at the place: the call is the last of the history, and one of the handle's own.
pub record PublishedAt (place : Place) (word : ℕ) (call : Call) (reply : Reply) (v w : View) : Type 0 where
  pub rows : Published (pen_sheet (pen_of v)) (pen_sheet (pen_of w)) place word call reply
  pub whole : IsWhole (pen_sheet (pen_of w))
  pub view : w ≡ record v { pen = Some (pen_of w); pass = Some (pass_of w) }
  pub recorded : WasPublished call reply (pen_of v) (pass_of v) (pen_of w) (pass_of w)
  pub mine : HasOwnCalls (pen_of w) (pass_of w)

-- The call ended. The handle's own calls are all that the history has of its number.
abbrev pub view_ended : Call → Reply → View → View
view_ended call reply v = let m = quiet_moment (pen_of v) (pass_of v) call reply in
    record v { pen = Some (pen_ended m (pen_of v)); pass = Some (pass_ended m (pen_of v) (pass_of v)) }

pub record EndedCall (call : Call) (reply : Reply) (v w : View) : Type 0 where
  pub view : w ≡ view_ended call reply v
  pub mine : HasOwnCalls (pen_of w) (pass_of w)
  pub few : (pen_of w).ended ≤ most_calls

-- ---- the plays, each with what its step announces

abbrev pub Seat : Type 0
Seat = Me (Unit {0}) View

abbrev pub sees_all : Step (Unit {0}) → Seat → ℕ → Seat → Type 0
sees_all step me found me' = SawAll me.0 found me'.0

abbrev pub learns : Step (Unit {0}) → Seat → ℕ → Seat → Type 0
learns step me found me' = Learnt me.0 me'.0 × (me'.1 ≡ me.1)

abbrev pub looks : Step (Unit {0}) → Seat → ℕ → Seat → Type 0
looks step me found me' = Looked step.word found me.0 me'.0

abbrev pub looks_at_root : Step (Unit {0}) → Seat → ℕ → Seat → Type 0
looks_at_root step me found me' = LookedAtRoot found me.0 me'.0

abbrev pub loads_section : ℕ → Step (Unit {0}) → Seat → ℕ → Seat → Type 0
loads_section pass step me found me' = LoadedSection pass found me.0 me'.0

abbrev pub begins_call : Step (Unit {0}) → Seat → ℕ → Seat → Type 0
begins_call step me found me' = Becomes pen_begun me.0 me'.0

abbrev pub drafts : ℕ → ℕ → Step (Unit {0}) → Seat → ℕ → Seat → Type 0
drafts row col step me found me' = Becomes (pen_drafted row col found) me.0 me'.0

-- The column was loaded: where it holds the word already, its node is a draft from then on, as if the word had been written.
abbrev pub finds_drafted : ℕ → ℕ → ℕ → Step (Unit {0}) → Seat → ℕ → Seat → Type 0
finds_drafted row col word step me found me' = (found ≡ word → Becomes (pen_drafted row col word) me.0 me'.0) × (found ≢ word → me'.0 ≡ me.0)

abbrev pub buries : ℕ → Step (Unit {0}) → Seat → ℕ → Seat → Type 0
buries row step me found me' = Becomes (pen_buried row) me.0 me'.0

abbrev pub tends : ℕ → ℕ → Step (Unit {0}) → Seat → ℕ → Seat → Type 0
tends row col step me found me' = Becomes (pen_tended row col found) me.0 me'.0

abbrev pub publishes : Place → Call → Reply → Step (Unit {0}) → Seat → ℕ → Seat → Type 0
publishes place call reply step me found me' = PublishedAt place found call reply me.0 me'.0

abbrev pub ends_call : Call → Reply → Step (Unit {0}) → Seat → ℕ → Seat → Type 0
ends_call call reply step me found me' = EndedCall call reply me.0 me'.0
