-- A window of indexes from which numbers are drawn.
-- Source: this project's own.
use Rattle.std.specs.Prelude.{ℕ, Option, Some}

-- the window, and the position from which the next number is sought, if there is one
pub record Draws : Type 0 where
  pub lo : ℕ
  pub hi : ℕ
  pub at : Option ℕ

-- no number was drawn yet
abbrev pub new_draws : ℕ → ℕ → Draws
new_draws lo hi = record { lo = lo; hi = hi; at = Some lo }
