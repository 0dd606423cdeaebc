use Rattle.mt_gap.proofs.Along.{HasMendedOn}
use Rattle.mt_gap.proofs.mends.mend_way.Given as goal

abbrev pub invariant-loop-level : goal.invariant-loop-level
invariant-loop-level g l = HasMendedOn (g.R.Rows.sheet l.fn.rows) (g.R.Rows.sheet l.rows) l.path.items l.leaf l.kind l.level l.below

abbrev pub decreases-loop-level : goal.decreases-loop-level
decreases-loop-level g l = l.level
