use Rattle.mt_path.proofs.Beginnings.{DescendsFirst}
use Rattle.mt_path.proofs.leaves.descend_first.Given as goal

abbrev pub invariant-loop : goal.invariant-loop
invariant-loop g l = DescendsFirst (g.R.Rows.sheet l.fn.rows) (g.R.Rows.sheet l.rows) l.index l.counter l.fn.path.items l.path.items l.row l.slot
