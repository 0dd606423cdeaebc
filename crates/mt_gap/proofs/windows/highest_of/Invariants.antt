use Rattle.mt_gap.proofs.Asking.{HighIs}
use Rattle.mt_gap.proofs.RowReads.{IsReadTo}
use Rattle.mt_gap.proofs.windows.highest_of.Given as goal

abbrev pub invariant-loop-slot : goal.invariant-loop-slot
invariant-loop-slot g l = IsReadTo (HighIs l.window.size l.window.lo l.window.hi l.found) (g.R.Rows.sheet l.fn.rows) (g.R.Rows.sheet l.rows) l.kind l.row l.first l.max l.slot l.begin
