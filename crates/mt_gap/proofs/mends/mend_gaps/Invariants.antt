use Rattle.mt_gap.proofs.Prelude.{HasMendedRows}
use Rattle.mt_gap.proofs.mends.mend_gaps.Given as goal

abbrev pub invariant-loop-level : goal.invariant-loop-level
invariant-loop-level g l = HasMendedRows (g.R.Rows.sheet l.fn.rows) (g.R.Rows.sheet l.rows) l.path.items l.kind l.level 0

abbrev pub decreases-loop-level : goal.decreases-loop-level
decreases-loop-level g l = l.level
