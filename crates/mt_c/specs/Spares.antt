-- A pass (handle) of a shared tree that no user has. Source: this project's own.
use Rattle.std.specs.Prelude.{◌≡◌, None}
use Rattle.mt_c.specs.Prelude.{Tree, Pass, IsPassOf, pass_in}

-- It is of this tree, and has no section open.
pub record IsSparePass (t : Tree) (p : Pass) : Type 0 where
  pub of : IsPassOf t p
  pub rests : (pass_in p).standing ≡ None
