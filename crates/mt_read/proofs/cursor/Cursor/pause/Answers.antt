use Rattle.mt_read.proofs.Prelude.{rules}
use Rattle.mt_read.proofs.cursor.Cursor.pause.Goals as goal

pub returns-clause-cursor : goal.returns-clause-cursor
returns-clause-cursor g c = search rules

pub returns-clause-same : goal.returns-clause-same
returns-clause-same g c = search rules
