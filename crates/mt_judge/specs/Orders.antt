-- Whether the lines of a transcript keep to those that they know of, and the first that does not.
-- Source: this project's own.
use Rattle.std.specs.Prelude.{ℕ, ◌+◌, ◌<◌, List, AllPairs, length, take}
use Rattle.mt_judge.specs.Prelude.{ToldLine, InPrintedOrder}

abbrev pub IsInOrder : List ToldLine → Type 0
IsInOrder told = AllPairs InPrintedOrder told

-- the lines before this place keep to one another, and with the one at it they do not
pub record IsFirstOut (told : List ToldLine) (place : ℕ) : Type 0 where
  pub within : place < length told
  pub before : IsInOrder (take place told)
  pub out : IsInOrder (take (place + 1) told) → ⊥
