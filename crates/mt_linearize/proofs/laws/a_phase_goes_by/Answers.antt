use Rattle.mt_linearize.proofs.Running.{phase_ran}
use Rattle.mt_linearize.proofs.laws.a_phase_goes_by.Goals as goal

pub returns : goal.returns
returns c = phase_ran
