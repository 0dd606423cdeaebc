use Rattle.mt_splice.proofs.Prelude.{◌-◌}
use Rattle.mt_splice.proofs.BuryingRows.{IsStretchSoFar}
use Rattle.mt_splice.proofs.burying.bury_stretch.Given as goal

abbrev pub invariant-loop-child : goal.invariant-loop-child
invariant-loop-child g l = IsStretchSoFar (g.R.Rows.sheet l.fn.rows) (g.R.Rows.sheet l.rows) l.fn.book l.book l.depth l.first l.last l.number l.way.items l.child

abbrev pub decreases-loop-child : goal.decreases-loop-child
decreases-loop-child g l = l.last - l.child.last
