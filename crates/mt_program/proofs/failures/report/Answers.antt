use Rattle.mt_program.proofs.Prelude.{rules}
use Rattle.mt_program.proofs.failures.report.Goals as goal

pub returns-clause-told : goal.returns-clause-told
returns-clause-told g c = search rules
