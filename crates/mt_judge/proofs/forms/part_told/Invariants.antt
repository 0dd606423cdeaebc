use Rattle.mt_judge.proofs.Prelude.{◌-◌}
use Rattle.mt_judge.proofs.Beginnings.{StopsWithin}
use Rattle.mt_judge.proofs.forms.part_told.Given as goal

abbrev pub invariant-halves : goal.invariant-halves
invariant-halves l = StopsWithin l.fn.log l.fn.text l.count l.above l.account.told.items l.account.rest.now

abbrev pub decreases-halves : goal.decreases-halves
decreases-halves l = l.above - l.count
