use Rattle.mt_gap.proofs.Prelude.{Gapped}
use Rattle.mt_gap.proofs.Asking.{HasAsked}
use Rattle.mt_gap.proofs.RowReads.{IsReadTo}
use Rattle.mt_gap.proofs.windows.ask_row.Given as goal

abbrev pub invariant-loop-slot : goal.invariant-loop-slot
invariant-loop-slot g l = IsReadTo (HasAsked l.window.size l.window.lo l.window.hi l.fn.asked.items l.asked.items) (g.R.Rows.sheet l.fn.rows) (g.R.Rows.sheet l.rows) Gapped l.row l.first l.max l.slot l.begin
