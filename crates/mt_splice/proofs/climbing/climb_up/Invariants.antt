use Rattle.mt_splice.proofs.Prelude.{◌≡◌, IsClimbing}
use Rattle.mt_splice.proofs.climbing.climb_up.Given as goal

abbrev pub invariant-loop-rows : goal.invariant-loop-rows
invariant-loop-rows g l =
    IsClimbing g.B.Begun.before g.B.Begun.start (g.R.Rows.sheet l.rows) l.book l.kind l.depth l.climb
    × ((g.R.Rows.sheet l.rows).buried ≡ (g.R.Rows.sheet l.fn.rows).buried)
    × (l.book.held ≡ l.fn.book.held)

abbrev pub decreases-loop-rows : goal.decreases-loop-rows
decreases-loop-rows g l = l.depth
