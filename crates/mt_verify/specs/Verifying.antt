-- What is known of the lines of a text when the trees of its log are gone through.
-- Source: this project's own.
use Rattle.std.specs.Prelude.{◌<◌, ◌≤◌, ◌^◌, ℕ, List, All, AllPairs, length}
use Rattle.mt_verify.specs.Prelude.{most_rows, Log, IsReadable, trees_of, ToldLine, most_lanes}
use Rattle.mt_verify.specs.PrintedOrder.{EndsInTree}

-- The lines are of the log's trees and lanes, phase by phase, and no window ends after the last call on its tree.
pub record IsOfLog (log : Log) (rows : ℕ) (told : List ToldLine) : Type 0 where
  pub readable : IsReadable log.lines
  pub few_rows : rows ≤ most_rows
  pub few : length told < 2 ^ 57
  pub trees : All (λ t. t.tree < length (trees_of log.lines)) told
  pub lanes : All (λ t. t.lane < most_lanes) told
  pub phases : AllPairs (λ s t. s.phase ≤ t.phase) told
  pub within : All (EndsInTree told) told
