-- The cursor walks over the same tree, by the same pass.
use Rattle.mt_numbers.proofs.Prelude.{◌≡◌}
use Rattle.mt_numbers.proofs.readers.rises.Given as goal

abbrev pub invariant-loop-number : goal.invariant-loop-number
invariant-loop-number g l =
    (l.cursor.pass.ghost_name ≡ l.initial.cursor.pass.ghost_name)
    × (l.cursor.tree ≡ l.initial.cursor.tree)
