use Rattle.mt_gap.proofs.Prelude.{◌≡◌, ReadsUpTo, most_gap}
use Rattle.mt_gap.proofs.mends.greatest_of.Given as goal

abbrev pub invariant-loop-slot : goal.invariant-loop-slot
invariant-loop-slot g l = (l.greatest ≡ most_gap (g.R.Rows.sheet l.fn.rows).tree.table l.row l.slot) × ReadsUpTo l.slot (g.R.Rows.sheet l.fn.rows) (g.R.Rows.sheet l.rows)
