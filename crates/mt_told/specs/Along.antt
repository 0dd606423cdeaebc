-- What is read off a text of a line of the log.
-- Source: this project's own.
use Rattle.std.specs.Prelude.{◌≡◌, ℕ, ◌<◌, List, [], ◌∷◌}
use Rattle.mt_told.specs.Prelude.{Line, AreDone, Step, asked_from, lane_of, NamesBelow}
use Rattle.mt_told.specs.Telling.{HasForm}
use Rattle.mt_told.specs.declared.told.ToldLine.{ToldLine}

-- these steps are the outcome of a line in this lane (thread) and this phase
abbrev pub IsLaneLineDone : ℕ → ℕ → Line → List Step → Type 0
IsLaneLineDone lane phase line steps = AreDone (asked_from lane phase (line ∷ [])) steps

-- what the text says is of this lane, this phase and the tree that the line names
pub record IsPlacedBy (lane phase : ℕ) (line : Line) (t : ToldLine) : Type 0 where
  pub form : HasForm t.what
  pub done_in : t.lane ≡ lane_of lane line.item
  pub done_at : t.phase ≡ phase
  pub done_on : (count : ℕ) → NamesBelow count line.item → t.tree < count
