use Rattle.mt_base.specs.declared.calls.Call.TheVariants as calls
use Rattle.mt_base.specs.declared.replies.Reply.TheVariants as replies
use Rattle.mt_rule.proofs.Prelude.{Root}
use Rattle.mt_rule.proofs.table.MtTable.draft.Given as goal

abbrev pub ghosts-draft_at : goal.ghosts-draft_at
ghosts-draft_at g a = record { call = calls.Clear; reply = replies.Ok; place = Root; number = a.row; column = a.col; word = 0 }

abbrev pub ghosts-finds_drafted : goal.ghosts-finds_drafted
ghosts-finds_drafted g a = record { call = calls.Clear; reply = replies.Ok; place = Root; number = a.row; column = a.col; word = a.word }
