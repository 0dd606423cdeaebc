use Rattle.mt_program.proofs.Endings.{has_no_memory}
use Rattle.mt_program.proofs.program.run.Goals as goal

pub returns-in_err-rows-clause-ends : goal.returns-in_err-rows-clause-ends
returns-in_err-rows-clause-ends g c = has_no_memory _ _ _ _ c.from_residual.ensures.1
