-- A table from names to kinds, as the list of trees that it represents.
-- Source: this project's own.
use Rattle.std.specs.Prelude.{ℕ, List}
use Rattle.mt_log.specs.Prelude.{Kind}
use Rattle.mt_log.specs.declared.trees.KnownTree.{KnownTree}

abbrev pub known : List ℕ × Kind → KnownTree
known e = record { name = e.0; kind = e.1 }
