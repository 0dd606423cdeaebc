use Rattle.mt_linearize.proofs.Prelude.{refl}
use Rattle.mt_linearize.proofs.WorkedPhase.{worked_phase}
use Rattle.mt_linearize.proofs.lanes.a_worked_phase.Goals as goal

pub returns-clause-phase : goal.returns-clause-phase
returns-clause-phase c = worked_phase

pub returns-clause-sum : goal.returns-clause-sum
returns-clause-sum c = refl
