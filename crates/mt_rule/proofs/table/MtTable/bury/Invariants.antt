use Rattle.mt_base.specs.declared.calls.Call.TheVariants as calls
use Rattle.mt_base.specs.declared.replies.Reply.TheVariants as replies
use Rattle.mt_rule.proofs.Prelude.{Root}
use Rattle.mt_rule.proofs.table.MtTable.bury.Given as goal

abbrev pub ghosts-bury_at : goal.ghosts-bury_at
ghosts-bury_at g a = record { call = calls.Clear; reply = replies.Ok; place = Root; number = a.row; column = 0; word = 0 }
