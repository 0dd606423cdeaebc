use Rattle.mt_judge.proofs.Prelude.{KeepsOrder}
use Rattle.mt_judge.proofs.orders.window_fault.Given as goal

abbrev pub invariant-loop-tree : goal.invariant-loop-tree
invariant-loop-tree l = KeepsOrder l.fn.told l.found
