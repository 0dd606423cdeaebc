use Rattle.mt_gap.proofs.Prelude.{LoadedUpTo}
use Rattle.mt_gap.proofs.LevelLoops.{FoundHigh}
use Rattle.mt_gap.proofs.searches.highest_in_leaves.Given as goal

abbrev pub invariant-loop-leaf : goal.invariant-loop-leaf
invariant-loop-leaf g l = LoadedUpTo l.leaf-index (g.R.Rows.sheet l.fn.rows) (g.R.Rows.sheet l.rows) l.fn.steps l.steps × FoundHigh l.window (g.R.Rows.sheet l.fn.rows).tree.table l.leaves l.leaf-index l.found
