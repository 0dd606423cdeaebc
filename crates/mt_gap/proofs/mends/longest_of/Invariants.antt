use Rattle.mt_gap.proofs.Prelude.{Leaf}
use Rattle.mt_gap.proofs.Asking.{LongestIs}
use Rattle.mt_gap.proofs.RowReads.{IsReadTo}
use Rattle.mt_gap.proofs.mends.longest_of.Given as goal

abbrev pub invariant-loop-slot : goal.invariant-loop-slot
invariant-loop-slot g l = IsReadTo (LongestIs l.longest) (g.R.Rows.sheet l.fn.rows) (g.R.Rows.sheet l.rows) Leaf l.row l.first l.max l.slot l.begin
