-- That a stretch of a log is of one phase.
-- Source: this project's own, the language of logs.
use Rattle.std.specs.Prelude.{◌≡◌, ◌≤◌, ◌<◌, ℕ, false, List, slice_index_or}
use Rattle.mt_replay.specs.Prelude.{Line, is_join}

-- none of the lines from one place of a log to another ends a phase
abbrev pub NoJoinBetween : List Line → ℕ → ℕ → Type 0
NoJoinBetween log from to = (at : ℕ) (line : Line) → from ≤ at → at < to → is_join (slice_index_or log at line).item ≡ false
