use Rattle.mt_judge.proofs.Prelude.{◌≤◌}
use Rattle.mt_judge.proofs.forms.fault_of.Given as goal

abbrev pub invariant-finds : goal.invariant-finds
invariant-finds l = l.fn.place ≤ l.at
