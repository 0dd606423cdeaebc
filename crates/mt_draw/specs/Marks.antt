-- What a slot of a node is drawn as.
-- Source: this project's own.
use Rattle.std.specs.Prelude.{ℕ, ◌==◌, if◌then◌else◌}
use Rattle.mt_draw.specs.Prelude.{RowKind, Leaf, Inner, Gapped}
use Rattle.mt_draw.specs.declared.boxes.Mark.{Mark}
use Rattle.mt_draw.specs.declared.boxes.Mark.TheVariants.{Hole, Range, Child}

-- in a leaf a word is an entry, or 0 for a hole; in an inner node it leads to a node
abbrev pub mark_of : RowKind → ℕ → Mark
mark_of Leaf word = if word == 0 then Hole else Range
mark_of Inner word = Child
mark_of Gapped word = Child
