use Rattle.mt_log.proofs.Prelude.{arith, common_steps}
use Rattle.mt_log.proofs.printing.push_lines.Goals as goal

pub loop-line-preserved : goal.loop-line-preserved
loop-line-preserved c = grind (arith, common_steps)
