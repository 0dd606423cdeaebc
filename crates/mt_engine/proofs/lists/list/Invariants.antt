use Rattle.mt_engine.proofs.Prelude.{length, map_by}
use Rattle.mt_engine.proofs.Walking.{AreListed, ranges_from}
use Rattle.mt_engine.proofs.lists.list.Given as goal

abbrev pub invariant-loop-range : goal.invariant-loop-range
invariant-loop-range g l = AreListed (g.R.Rows.sheet l.initial.rows) (g.R.Rows.sheet l.rows) l.walk l.ranges.items

abbrev pub decreases-loop-range : goal.decreases-loop-range
decreases-loop-range g l = length (ranges_from (map_by (g.R.Rows.sheet l.initial.rows).tree) l.walk.next)
