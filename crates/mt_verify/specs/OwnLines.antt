-- What a text says of one tree.
-- Source: this project's own.
use Rattle.std.specs.Prelude.{ℕ, ◌+◌, ◌==◌, List, [], ◌∷◌, Option, Some, None, nat_lt, if◌then◌else◌, filter_map}
use Rattle.mt_verify.specs.Prelude.{ToldLine, What, Wrote, Got, Copied, Lawful}
use Rattle.mt_verify.specs.LaneReads.{look_told}
use Rattle.mt_verify.specs.declared.counts.Counting.{Counting}
use Rattle.mt_verify.specs.declared.looks.ToldRead.{ToldRead}
use Rattle.mt_verify.specs.declared.stops.Stop.{Stop}

-- the line, if it is of this tree
abbrev pub line_on : ℕ → ToldLine → Option ToldLine
line_on tree t = if t.tree == tree then Some t else None

abbrev pub lines_on : ℕ → List ToldLine → List ToldLine
lines_on tree told = filter_map (line_on tree) told

-- the read that a line reports, if it is of this lane
abbrev pub look_by_lane : ℕ → ToldLine → Option ToldRead
look_by_lane lane t = if t.lane == lane then look_told t.what else None

abbrev pub looks_by_lane : List ToldLine → ℕ → List ToldRead
looks_by_lane own lane = filter_map (look_by_lane lane) own

-- ---- calls and counts of ranges

abbrev pub calls_in : What → ℕ
calls_in (Wrote number call reply) = 1
calls_in (Got lo hi query told) = 0
calls_in (Copied count) = 0
calls_in (Lawful count) = 0

abbrev pub calls_below : List ToldLine → ℕ → ℕ
calls_below [] phase = 0
calls_below (t ∷ own) phase = (if nat_lt t.phase phase then calls_in t.what else 0) + calls_below own phase

abbrev pub entered : ℕ → Counting → Counting
entered phase c = if nat_lt c.phase phase then record { phase = phase; before = c.calls; calls = c.calls } else c

-- a line that reports how many ranges the tree had after this many calls
abbrev pub stop_at : ℕ → What → Option Stop
stop_at at (Wrote number call reply) = None
stop_at at (Got lo hi query told) = None
stop_at at (Copied count) = Some (record { at = at; count = count })
stop_at at (Lawful count) = Some (record { at = at; count = count })

-- all of them, each after the calls of lower phases
abbrev pub stops_told : List ToldLine → List Stop
stops_told own = filter_map (λ t. stop_at (calls_below own t.phase) t.what) own
