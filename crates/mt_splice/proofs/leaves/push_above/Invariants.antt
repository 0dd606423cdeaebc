use Rattle.mt_splice.proofs.LeafAbove.{ArePushedUpTo}
use Rattle.mt_splice.proofs.leaves.push_above.Given as goal

abbrev pub invariant-loop-slot : goal.invariant-loop-slot
invariant-loop-slot g l = ArePushedUpTo (g.R.Rows.sheet l.initial.rows) (g.R.Rows.sheet l.rows) l.leaf l.last l.slot l.initial.run.items l.run.items
