use Rattle.mt_base.specs.declared.calls.Call.TheVariants as calls
use Rattle.mt_base.specs.declared.replies.Reply.TheVariants as replies
use Rattle.mt_rule.proofs.Prelude.{Root}
use Rattle.mt_rule.proofs.table.MtTable.load_section.Given as goal

abbrev pub ghosts-load_section_of : goal.ghosts-load_section_of
ghosts-load_section_of a = record { call = calls.Clear; reply = replies.Ok; place = Root; number = a.pass; column = 0; word = 0 }
