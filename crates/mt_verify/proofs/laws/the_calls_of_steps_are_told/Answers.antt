use Rattle.mt_verify.proofs.ToldSteps.{calls_of_steps}
use Rattle.mt_verify.proofs.laws.the_calls_of_steps_are_told.Goals as goal

pub returns : goal.returns
returns c = calls_of_steps
