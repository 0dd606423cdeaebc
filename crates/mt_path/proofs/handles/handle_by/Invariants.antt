use Rattle.mt_path.proofs.Descents.{Passes}
use Rattle.mt_path.proofs.handles.handle_by.Given as goal

abbrev pub invariant-loop : goal.invariant-loop
invariant-loop g l = Passes (g.R.Rows.sheet l.fn.rows) (g.R.Rows.sheet l.rows) l.index l.counter l.row
