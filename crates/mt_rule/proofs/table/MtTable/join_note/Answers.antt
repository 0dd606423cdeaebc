use Rattle.mt_rule.proofs.Prelude.{rules}
use Rattle.mt_rule.proofs.Moving.{learning, note_joining}
use Rattle.mt_rule.proofs.table.MtTable.join_note.Goals as goal

pub join_seat-requires : goal.join_seat-requires
join_seat-requires c = (search rules, search rules, search rules, search rules, note_joining _ _ _ _ _)

pub load-requires : goal.load-requires
load-requires c = (search rules, search rules, learning _ _ _ _ (search rules) (search rules))
