-- How a declared tree opens, as the code keeps it.
-- Source: this project's own.
use Rattle.std.specs.Prelude.{Option, Some, None}
use Rattle.mt_verify.specs.Prelude.{Opening, Empty, CopyOf}
use Rattle.mt_verify.specs.declared.declared.DeclaredSource.{DeclaredSource}

abbrev pub opening_of : Option DeclaredSource → Opening
opening_of None = Empty
opening_of (Some source) = CopyOf source.tree source.phase
