use Rattle.mt_log.proofs.Prelude.{arith, common_steps}
use Rattle.mt_log.proofs.rendering.put_shortage.Goals as goal

pub returns-clause-text : goal.returns-clause-text
returns-clause-text c = grind (arith, common_steps)
