use Rattle.mt_gap.proofs.Prelude.{LoadedUpTo}
use Rattle.mt_gap.proofs.LevelLoops.{HasAskedBelow}
use Rattle.mt_gap.proofs.levels.next_level.Given as goal

abbrev pub invariant-loop-row : goal.invariant-loop-row
invariant-loop-row g l = LoadedUpTo l.row-index (g.R.Rows.sheet l.fn.rows) (g.R.Rows.sheet l.rows) l.fn.steps l.steps × HasAskedBelow l.side l.window (g.R.Rows.sheet l.fn.rows).tree.table l.asked l.row-index l.next.items
