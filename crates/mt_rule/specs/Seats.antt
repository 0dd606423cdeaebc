-- What a seat (token) of a tree's table knows, part by part, and what each part represents.
-- Source: this project's own.
use Rattle.std.specs.Prelude.{◌≡◌, ℕ, ◌+◌, List, [], ◌∷◌, length, map, min, nat_lt, replicate, slice_index_or, true, false, Option, Some, None, if◌then◌else◌}
use Rattle.std.specs.List.{range_with_len}
use Rattle.mt_rule.specs.Prelude.{kind_width, first_row, Call, Kind, Reply, Record, History, map_at, State, cuts_by, Life, New, Live, sheet_in, map_by, is_reached, Rooted, Sheet, reached_in}
use Rattle.mt_base.specs.declared.kinds.Kind.TheVariants as kinds
use Rattle.mt_base.specs.Passes as known
use Rattle.mt_life.specs.declared.views.Moment as life
use Rattle.mt_rule.specs.declared.views.TableStart.{TableStart}
use Rattle.mt_rule.specs.declared.views.Shape.{Shape}
use Rattle.mt_rule.specs.declared.views.Moment.{Moment}
use Rattle.mt_rule.specs.declared.views.View.{View}
use Rattle.mt_rule.specs.declared.views.PenPart.{PenPart}
use Rattle.mt_rule.specs.declared.views.PassPart.{PassPart}
use Rattle.mt_rule.specs.declared.views.NotePart.{NotePart}
use Rattle.mt_rule.specs.Scans.{none_open}

-- ---- what a table gets when it is made

-- what is known of a tree that opens with these nodes
abbrev pub shape_opening : Kind → Rooted → ℕ → ℕ → Shape
shape_opening kind t passes calls = record { kind = kind; rows = t.rows; passes = passes; calls = calls; opening = map_by t; cuts = cuts_by t; opened = length (reached_in t.table t.root) }

abbrev pub shape_told : TableStart → Shape
shape_told t = shape_opening t.kind (sheet_in t.rows.value).tree t.passes t.calls

abbrev pub no_shape : Shape
no_shape = record { kind = kinds.Range; rows = 0; passes = 0; calls = 0; opening = []; cuts = []; opened = 0 }

-- ---- moments

abbrev pub moment : ℕ → Call → Reply → List ℕ → Moment
moment pass call reply cuts = record { pass = pass; call = call; reply = reply; cuts = cuts }

-- the record of a moment, which is what is visible of it outside
abbrev pub record_of : Moment → Record
record_of m = record { pass = m.pass; call = m.call; reply = m.reply }

abbrev pub records_of : List Moment → List Record
records_of moments = map record_of moments

-- the tree of this shape, where these are its moments
abbrev pub tree_of : Shape → List Moment → History
tree_of shape moments = record { kind = shape.kind; rows = shape.rows; opening = shape.opening; records = records_of moments }

-- where the leaves begin after the first k calls
abbrev pub cuts_of : Moment → List ℕ
cuts_of m = m.cuts

abbrev pub cuts_at : Shape → List Moment → ℕ → List ℕ
cuts_at shape moments k = slice_index_or (shape.cuts ∷ map cuts_of moments) k []

-- the map after the first k calls, and where its leaves begin
abbrev pub moment_at : Shape → List Moment → ℕ → life.Moment
moment_at shape moments k = record { ranges = map_at (tree_of shape moments) k; cuts = cuts_at shape moments k }

-- the longer of two beginnings of one history
abbrev pub longer_history : List Moment → List Moment → List Moment
longer_history xs ys = if nat_lt (length xs) (length ys) then ys else xs

-- ---- parts

-- the lives of nodes when a tree opens: those that are reached are live
abbrev pub opening_life : Rooted → ℕ → Life
opening_life t row = if is_reached t row then Live else New

-- the pen of a tree that opens with these nodes
abbrev pub new_pen : Shape → Rooted → PenPart
new_pen shape t = record {
  shape = shape;
  dealt = 0;
  history = [];
  ended = 0;
  in_flight = false;
  published = false;
  root = t.root;
  words = t.table.words;
  lives = map (opening_life t) (range_with_len 0 (first_row + t.rows));
  buried = replicate (first_row + t.rows) false;
  cleared = replicate shape.passes 0;
  loaded = [];
  sections = [];
}

abbrev pub no_pen : PenPart
no_pen = record { shape = no_shape; dealt = 0; history = []; ended = 0; in_flight = false; published = false; root = 0; words = []; lives = []; buried = []; cleared = []; loaded = []; sections = [] }

abbrev pub new_part : Shape → ℕ → PassPart
new_part shape number = record { shape = shape; number = number; seen = []; mine = []; opened = []; standing = None; begun = 0; ended = 0; epoch = 0; floor = None; risen = 0; marks = []; held = []; steps = 0 }

-- what a handle's part represents
abbrev pub known_by : PassPart → known.Pass
known_by q = record { number = q.number; seen = records_of q.seen; mine = q.mine; opened = q.opened; standing = q.standing; begun = q.begun; ended = q.ended }

abbrev pub pen_or : Option PenPart → PenPart
pen_or (Some p) = p
pen_or None = no_pen

abbrev pub pass_or : Option PassPart → PassPart
pass_or (Some q) = q
pass_or None = new_part no_shape 0

abbrev pub note_or : Option NotePart → NotePart
note_or (Some n) = n
note_or None = record { seen = [] }

-- ---- views

abbrev pub pen_of : View → PenPart
pen_of v = pen_or v.pen

abbrev pub pass_of : View → PassPart
pass_of v = pass_or v.pass

abbrev pub note_of : View → NotePart
note_of v = note_or v.note

abbrev pub HasPen : View → Type 0
HasPen v = v.pen ≡ Some (pen_of v)

abbrev pub HasPass : View → Type 0
HasPass v = v.pass ≡ Some (pass_of v)

abbrev pub HasNote : View → Type 0
HasNote v = v.note ≡ Some (note_of v)

-- a seat that was joined into another knows nothing
abbrev pub no_view : View
no_view = record { pen = None; pass = None; note = None }

abbrev pub opening_view : TableStart → View
opening_view told = record no_view { pen = Some (new_pen (shape_told told) (sheet_in told.rows.value).tree) }

-- the pen after it has dealt a handle, and the new handle's view
abbrev pub dealing_view : View → View
dealing_view v = record v { pen = Some (record (pen_of v) { dealt = (pen_of v).dealt + 1 }) }

abbrev pub dealt_view : View → View
dealt_view v = record no_view { pass = Some (new_part (pen_of v).shape (pen_of v).dealt) }

-- the pen that a handle is joined with: no section word was loaded since
abbrev pub pen_joined : PenPart → PenPart
pen_joined p = record p { sections = [] }

-- a handle's part beside the pen's, or a note's beside what a seat knows; and apart from it again
abbrev pub with_pass : View → View → View
with_pass v w = record v { pen = Some (pen_joined (pen_of v)); pass = w.pass }

abbrev pub with_note : View → View → View
with_note v w = record v { note = w.note }

abbrev pub without_pass : View → View
without_pass v = record v { pass = None }

abbrev pub pass_alone : View → View
pass_alone v = record no_view { pass = v.pass }

abbrev pub note_alone : View → View
note_alone v = record no_view { note = Some (record { seen = (pass_of v).seen }) }

-- ---- the nodes that the pen knows

abbrev pub rooted_in : PenPart → Rooted
rooted_in p = record { rows = p.shape.rows; table = record { width = kind_width p.shape.kind; words = p.words }; root = p.root }

-- the least of some numbers, and 0 of none
abbrev pub least_number : List ℕ → ℕ
least_number [] = 0
least_number (n ∷ []) = n
least_number (n ∷ m ∷ ns) = min n (least_number (m ∷ ns))

abbrev pub state_in : PenPart → State
state_in p = record { tree = rooted_in p; lives = p.lives; buried = p.buried; ended = p.ended; in_flight = p.in_flight; published = p.published; cleared = least_number p.cleared }

-- the nodes that the pen knows, as a sheet without scans and records
abbrev pub pen_sheet : PenPart → Sheet
pen_sheet p = record {
  tree = rooted_in p;
  ended = p.ended;
  in_flight = p.in_flight;
  published = p.published;
  lives = p.lives;
  buried = p.buried;
  opened = p.shape.opened;
  cleared = least_number p.cleared;
  shared = true;
  scan = none_open;
  scans = 0;
  reads = None;
  kind = Some p.shape.kind;
  told = None;
}

-- ---- a handle's views: one with a handle's part, or none if its seat is joined into the pen's

abbrev pub part_in : List View → Option PassPart
part_in [] = None
part_in (v ∷ views) = v.pass

abbrev pub views_with : Option PassPart → List View
views_with None = []
views_with (Some q) = record no_view { pass = Some q } ∷ []
