use Rattle.mt_base.specs.declared.calls.Call.TheVariants as calls
use Rattle.mt_base.specs.declared.replies.Reply.TheVariants as replies
use Rattle.mt_rule.proofs.Prelude.{Root}
use Rattle.mt_rule.proofs.table.MtTable.tend.Given as goal

abbrev pub ghosts-tend_at : goal.ghosts-tend_at
ghosts-tend_at g a = record { call = calls.Clear; reply = replies.Ok; place = Root; number = a.row; column = a.col; word = 0 }
