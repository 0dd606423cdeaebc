use Rattle.mt_rule.proofs.Prelude.{rules}
use Rattle.mt_rule.proofs.Moving.{noting}
use Rattle.mt_rule.proofs.table.MtTable.split_note.Goals as goal

pub split_seat-note-requires : goal.split_seat-note-requires
split_seat-note-requires c = (search rules, search rules, noting _ _ _ (search rules))
