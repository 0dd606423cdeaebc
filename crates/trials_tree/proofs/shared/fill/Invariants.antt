use Rattle.trials_tree.proofs.Prelude.{IsPassOf}
use Rattle.trials_tree.proofs.shared.fill.Given as goal

abbrev pub invariant-loop-i : goal.invariant-loop-i
invariant-loop-i g l = IsPassOf l.fn.tree l.pass
