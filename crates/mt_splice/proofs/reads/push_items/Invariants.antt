use Rattle.mt_splice.proofs.Readings.{AreReadUpTo}
use Rattle.mt_splice.proofs.reads.push_items.Given as goal

abbrev pub invariant-loop-slot : goal.invariant-loop-slot
invariant-loop-slot g l = AreReadUpTo (g.R.Rows.sheet l.initial.rows) (g.R.Rows.sheet l.rows) l.kind l.step.row l.step.max l.from l.to l.slot l.initial.run.items l.run.items
