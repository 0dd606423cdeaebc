use Rattle.mt_dup.proofs.WrittenRows.{Reading}
use Rattle.mt_dup.proofs.columns.copy_by.Given as goal

abbrev pub invariant-loop-col : goal.invariant-loop-col
invariant-loop-col g l = Reading (g.R.Rows.sheet l.initial.src) (g.R.Rows.sheet l.src) l.parent l.pair.row l.col l.words
