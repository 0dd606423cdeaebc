use Rattle.mt_rule.proofs.Prelude.{rules}
use Rattle.mt_rule.proofs.Moving.{parting, seeing}
use Rattle.mt_rule.proofs.table.MtTable.split_pen.Goals as goal

pub load-requires : goal.load-requires
load-requires c = (search rules, search rules, seeing _ _ _ _ (search rules) (search rules))

pub split_seat-seat-requires : goal.split_seat-seat-requires
split_seat-seat-requires c = (search rules, search rules, parting _ _ _ (search rules))
