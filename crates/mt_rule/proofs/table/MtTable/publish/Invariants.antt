use Rattle.mt_rule.proofs.table.MtTable.publish.Given as goal

abbrev pub ghosts-publish_announced : goal.ghosts-publish_announced
ghosts-publish_announced g a = record { call = a.call.now; reply = a.reply.now; place = a.place; number = 0; column = 0; word = 0 }
