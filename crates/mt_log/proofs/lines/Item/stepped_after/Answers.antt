use Rattle.mt_log.proofs.Prelude.{rules}
use Rattle.mt_log.proofs.lines.Item.stepped_after.Goals as goal

pub returns-in-Join : goal.returns-in-Join
returns-in-Join c = search rules
