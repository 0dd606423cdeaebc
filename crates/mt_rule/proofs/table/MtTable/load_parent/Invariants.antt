use Rattle.mt_base.specs.declared.calls.Call.TheVariants as calls
use Rattle.mt_base.specs.declared.replies.Reply.TheVariants as replies
use Rattle.mt_rule.proofs.Prelude.{Root}
use Rattle.mt_rule.proofs.table.MtTable.load_parent.Given as goal

abbrev pub ghosts-load_parent_of : goal.ghosts-load_parent_of
ghosts-load_parent_of g a = record { call = calls.Clear; reply = replies.Ok; place = Root; number = a.row.number; column = 0; word = 0 }
