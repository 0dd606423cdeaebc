-- What one thread does with a log, line by line. Each handle of a tree has always seen the tree's whole history, and has no
-- open section.
-- Source: this project's own.
use Rattle.std.specs.Prelude.{◌≡◌, ℕ, ◌+◌, ◌/◌, ◌<◌, ◌≤◌, Bool, false, List, [], ◌∷◌, ◌++◌, Option, Some, None, length, map}
use Rattle.std.specs.List.{range_with_len}
use Rattle.mt_linearize.specs.Prelude.{Range, Record, History, IsAnswered, last_map, limits_after, Limits, Pass, holder_of, places, with_records, Outcome, Step, Declared}
use Rattle.mt_linearize.specs.Phases.{Tracked, IsPhase}
use Rattle.mt_linearize.specs.Tracks.{Ran}

-- the handle of this number, which has seen all of these calls and has opened no section
abbrev pub informed : List Record → ℕ → Pass
informed records number = record { number = number; seen = records; mine = places number records; opened = []; standing = None; begun = 0; ended = length records }

-- a tree whose handles have all seen its history
abbrev pub known_to_all : ℕ → History → Tracked
known_to_all passes h = record { history = h; passes = map (informed h.records) (range_with_len 0 passes) }

-- a tree after one more call
abbrev pub with_call : History → Record → History
with_call h r = with_records h (h.records ++ r ∷ [])

-- the limits of a tree's nodes allow no more than its history does, and nobody else holds nodes
pub record AreLimits (h : History) (l : Limits) : Type 0 where
  pub rows : l.rows ≡ h.rows
  pub opened : l.opened ≤ length h.opening / 2 + 2
  pub ended : l.ended ≤ length h.records
  pub alone : l.may_hold ≡ false

-- a map without limits does for any tree
abbrev pub MayLimit : History → Option Limits → Type 0
MayLimit h None = Unit {0}
MayLimit h (Some l) = AreLimits h l

-- The next call of a tree. The tree's map answered it, the map afterwards is `after`, and no open section was named as holding
-- nodes back.
pub record IsNext (h : History) (r : Record) (after : List Range) : Type 0 where
  pub answered : IsAnswered h.kind (limits_after h (length h.records)) (last_map h) r
  pub moved : after ≡ last_map (with_call h r)
  pub unheld : holder_of r.reply ≡ None

-- a step of a line
abbrev pub step_of_line : ℕ → ℕ → ℕ → ℕ → Outcome → Step
step_of_line phase lane line tree outcome = record { line = line; lane = lane; phase = phase; tree = tree; outcome = outcome }

-- These steps were done so far, and these are the declared trees, each with this many nodes and handles. The phases below this
-- one are over, and this one goes on. If no call, query or scan of this phase was made yet, the trees are as they were when it
-- began.
pub record HasPlayed (passes rows phase : ℕ) (stepped : Bool) (declared : List Declared) (steps : List Step) (trees : List History) : Type 0 where
  pub some : 0 < passes
  pub opening : List History
  pub earlier : List Step
  pub now : List Step
  pub all : steps ≡ earlier ++ now
  pub ran : Ran passes rows phase declared earlier (map (known_to_all passes) opening)
  pub going : IsPhase passes phase now (map (known_to_all passes) opening) (map (known_to_all passes) trees)
  pub still : stepped ≡ false → trees ≡ opening
