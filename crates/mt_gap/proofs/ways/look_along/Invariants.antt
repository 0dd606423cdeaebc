use Rattle.mt_gap.proofs.Prelude.{Gapped}
use Rattle.mt_gap.proofs.OneWay.{HasLooked}
use Rattle.mt_gap.proofs.RowReads.{IsReadTo}
use Rattle.mt_gap.proofs.ways.look_along.Given as goal

abbrev pub invariant-loop-slot : goal.invariant-loop-slot
invariant-loop-slot g l = IsReadTo (HasLooked l.side l.window l.below) (g.R.Rows.sheet l.fn.rows) (g.R.Rows.sheet l.rows) Gapped l.row l.first l.max l.slot l.begin
