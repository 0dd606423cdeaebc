use Rattle.mt_splice.proofs.Prelude.{AreTendedTo}
use Rattle.mt_splice.proofs.ends.tend_rows.Given as goal

abbrev pub invariant-loop-new : goal.invariant-loop-new
invariant-loop-new g l = AreTendedTo (g.R.Rows.sheet l.initial.rows) (g.R.Rows.sheet l.rows) l.kind l.new_inner_rows l.new-index
