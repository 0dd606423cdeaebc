use Rattle.mt_gap.proofs.Prelude.{pick_for, sought_in}
use Rattle.mt_gap.proofs.Descents.{HasCome}
use Rattle.mt_gap.proofs.searches.to_leaves.Given as goal

abbrev pub invariant-loop : goal.invariant-loop
invariant-loop g l = HasCome (g.R.Rows.sheet l.fn.rows) (g.R.Rows.sheet l.rows) (pick_for l.side l.window) l.window (sought_in l.side l.window (g.R.Rows.sheet l.fn.rows).tree) l.fn.steps l.steps l.counter l.asked.items
