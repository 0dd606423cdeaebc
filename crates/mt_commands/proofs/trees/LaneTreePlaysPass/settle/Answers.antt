use Rattle.mt_commands.proofs.Prelude.{rules}
use Rattle.mt_commands.proofs.trees.LaneTreePlaysPass.settle.Goals as goal

pub returns-clause-settled : goal.returns-clause-settled
returns-clause-settled g c = search rules
