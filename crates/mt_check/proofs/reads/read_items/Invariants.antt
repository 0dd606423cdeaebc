use Rattle.mt_check.proofs.Loaded.{AreRead, RiseSoFar}
use Rattle.mt_check.proofs.reads.read_items.Given as goal

abbrev pub invariant-loop-slot : goal.invariant-loop-slot
invariant-loop-slot g l =
    AreRead (g.R.Rows.sheet l.initial.rows) (g.R.Rows.sheet l.rows) l.kind l.row l.last l.slot l.items.items
    × RiseSoFar (g.R.Rows.sheet l.initial.rows).tree.table l.kind l.row l.first l.last l.slot l.rise l.begin
