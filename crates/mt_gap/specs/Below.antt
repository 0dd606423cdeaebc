-- The holes below nodes of one height: what leaves hold as 0, from the left.
-- Source: the kernel's core-api/maple_tree: a range of no entry is a slot of 0.
use Rattle.std.specs.Prelude.{◌==◌, List, [], ◌∷◌, if◌then◌else◌}
use Rattle.mt_gap.specs.Prelude.{Hole, Span}
use Rattle.mt_gap.specs.declared.children.Child.{Child}

-- the hole that a leaf's span is, and none of an entry
abbrev pub leaf_hole : Span → List Hole
leaf_hole x = if x.word == 0 then record { first = x.first; last = x.last } ∷ [] else []

abbrev pub child_hole : Child → List Hole
child_hole x = leaf_hole x.span
