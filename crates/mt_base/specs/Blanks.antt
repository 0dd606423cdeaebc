-- The blank (unused ledger) by which a count of steps begins.
-- Source: this project's own, over the toolchain's std::sync::ledger.
use Rattle.std.specs.Prelude.{◌≡◌, ℕ, ◌<◌}

-- A blank of this name and with so many parts opens the ledger that has them, and there are some.
pub record IsBlankOf (name parts blank_name blank_parts : ℕ) : Type 0 where
  pub name_is : blank_name ≡ name
  pub parts_are : blank_parts ≡ parts
  pub some : 0 < blank_parts
