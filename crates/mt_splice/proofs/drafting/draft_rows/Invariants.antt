use Rattle.mt_splice.proofs.DraftedRows.{AreSoFar}
use Rattle.mt_splice.proofs.drafting.draft_rows.Given as goal

abbrev pub invariant-loop-end : goal.invariant-loop-end
invariant-loop-end g l = AreSoFar (g.R.Rows.sheet l.fn.rows) (g.R.Rows.sheet l.rows) l.fn.book l.book l.level.above l.level.kind l.pieces.first l.items l.pieces.ends.items l.fn.made.items l.made.items l.numbers.items l.new.items l.from l.end-index
