use Rattle.mt_dup.proofs.Prelude.{◌+◌, ◌*◌, sheet_in}
use Rattle.mt_dup.proofs.Going.{Going}
use Rattle.mt_dup.proofs.walks.+walk.Given as goal

abbrev pub decreases-copy_children : goal.decreases-copy_children
decreases-copy_children g l = 2 * l.depth

abbrev pub decreases-copy_row : goal.decreases-copy_row
decreases-copy_row g l = 2 * l.way.depth + 1

abbrev pub invariant-copy_children-loop-slot : goal.invariant-copy_children-loop-slot
invariant-copy_children-loop-slot g l = Going (g.R.Rows.sheet l.initial.src) (g.R.Rows.sheet l.src) (sheet_in l.initial.dst) (sheet_in l.dst) l.initial.book l.book l.pair l.depth l.slot l.initial.steps l.steps
