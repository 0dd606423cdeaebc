use Rattle.mt_judge.proofs.Prelude.{◌-◌}
use Rattle.mt_judge.proofs.Firsts.{LiesWithin}
use Rattle.mt_judge.proofs.orders.first_out.Given as goal

abbrev pub invariant-loop-low : goal.invariant-loop-low
invariant-loop-low l = LiesWithin l.fn.told l.low l.last

abbrev pub decreases-loop-low : goal.decreases-loop-low
decreases-loop-low l = l.last - l.low
