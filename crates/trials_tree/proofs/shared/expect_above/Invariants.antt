use Rattle.trials_tree.proofs.Prelude.{IsPassOf}
use Rattle.trials_tree.proofs.shared.expect_above.Given as goal

abbrev pub invariant-loop-asked : goal.invariant-loop-asked
invariant-loop-asked g l = IsPassOf l.fn.tree l.pass
