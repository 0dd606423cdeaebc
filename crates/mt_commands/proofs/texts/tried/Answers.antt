use Rattle.mt_commands.proofs.Prelude.{rules}
use Rattle.mt_commands.proofs.texts.tried.Goals as goal

pub returns-clause-summary : goal.returns-clause-summary
returns-clause-summary g c = search rules
