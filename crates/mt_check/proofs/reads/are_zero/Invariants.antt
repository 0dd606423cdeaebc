use Rattle.mt_check.proofs.Unused.{AreZeroUpTo}
use Rattle.mt_check.proofs.reads.are_zero.Given as goal

abbrev pub invariant-loop-col : goal.invariant-loop-col
invariant-loop-col g l = AreZeroUpTo (g.R.Rows.sheet l.initial.rows) (g.R.Rows.sheet l.rows) l.row l.from l.end l.col
