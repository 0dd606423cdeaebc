use Rattle.mt_check.proofs.Prelude.{◌≡◌, false, drop}
use Rattle.mt_check.specs.RowTests as tests
use Rattle.mt_check.proofs.row_laws.are_apart.Given as goal

abbrev pub invariant-loop-item : goal.invariant-loop-item
invariant-loop-item l = tests.are_apart l.after_hole l.may_end (drop l.item-index l.items) ≡ tests.are_apart false l.may_end l.items
