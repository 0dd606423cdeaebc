use Rattle.mt_rule.proofs.Prelude.{Root}
use Rattle.mt_rule.proofs.table.MtTable.store_commits.Given as goal

abbrev pub ghosts-store_announced : goal.ghosts-store_announced
ghosts-store_announced a = record { call = a.call.now; reply = a.reply.now; place = Root; number = 0; column = 0; word = 0 }
