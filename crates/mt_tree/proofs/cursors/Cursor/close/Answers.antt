use Rattle.mt_tree.proofs.Prelude.{rules}
use Rattle.mt_tree.proofs.cursors.Cursor.close.Goals as goal

pub returns-clause-closed : goal.returns-clause-closed
returns-clause-closed g c = search rules
