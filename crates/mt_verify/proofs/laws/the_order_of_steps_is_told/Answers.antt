use Rattle.mt_verify.proofs.ToldSteps.{order_told, ends_told}
use Rattle.mt_verify.proofs.laws.the_order_of_steps_is_told.Goals as goal

pub returns-clause-order : goal.returns-clause-order
returns-clause-order c = order_told

pub returns-clause-ends : goal.returns-clause-ends
returns-clause-ends c = ends_told
