-- In which lane and in which phase a log is, after its first lines.
-- Source: this project's own, the language of logs.
use Rattle.std.specs.Prelude.{ℕ, List, [], ◌∷◌, if◌then◌else◌}
use Rattle.mt_linearize.specs.Prelude.{Line, phase_after, Asked, is_answered, lane_after, lane_of}

-- the lane after these lines, if the log was in this one before them
abbrev pub lane_behind : ℕ → List Line → ℕ
lane_behind lane [] = lane
lane_behind lane (line ∷ lines) = lane_behind (lane_after lane line.item) lines

-- the phase after these lines, if the log was in this one before them
abbrev pub phase_behind : ℕ → List Line → ℕ
phase_behind phase [] = phase
phase_behind phase (line ∷ lines) = phase_behind (phase_after phase line.item) lines

-- what a line of this lane and this phase asks for
abbrev pub asked_by : ℕ → ℕ → Line → List Asked
asked_by lane phase line = if is_answered line.item then record { line = line.number; lane = lane_of lane line.item; phase = phase; item = line.item } ∷ [] else []
