use Rattle.mt_path.proofs.Descents.{Descends}
use Rattle.mt_path.proofs.walks.descend_by.Given as goal

abbrev pub invariant-loop : goal.invariant-loop
invariant-loop g l = Descends (g.R.Rows.sheet l.fn.rows) (g.R.Rows.sheet l.rows) l.index l.counter l.fn.path.items l.path.items l.row
