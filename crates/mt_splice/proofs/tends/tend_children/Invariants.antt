use Rattle.mt_splice.proofs.Tending.{AreTendedUpTo}
use Rattle.mt_splice.proofs.tends.tend_children.Given as goal

abbrev pub invariant-loop-slot : goal.invariant-loop-slot
invariant-loop-slot g l = AreTendedUpTo (g.R.Rows.sheet l.initial.rows) (g.R.Rows.sheet l.rows) l.fn.kind l.row l.count l.slot
