use Rattle.mt_check.proofs.Prelude.{◌+◌, ◌*◌}
use Rattle.mt_check.proofs.Children.{Goes}
use Rattle.mt_check.proofs.walks.Walk.+walk.Given as goal

abbrev pub decreases-check_children : goal.decreases-check_children
decreases-check_children g l = 2 * l.visit.left

abbrev pub decreases-check_row : goal.decreases-check_row
decreases-check_row g l = 2 * l.visit.left + 1

abbrev pub invariant-check_children-loop-slot : goal.invariant-check_children-loop-slot
invariant-check_children-loop-slot g l = Goes (g.R.Rows.sheet l.initial.rows) (g.R.Rows.sheet l.rows) l.initial.self l.self l.visit l.row l.slot l.below l.gaps_hold
