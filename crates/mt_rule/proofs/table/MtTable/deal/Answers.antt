use Rattle.mt_rule.proofs.Prelude.{rules}
use Rattle.mt_rule.proofs.Moving.{dealing}
use Rattle.mt_rule.proofs.table.MtTable.deal.Goals as goal

pub split_seat-seat-requires : goal.split_seat-seat-requires
split_seat-seat-requires c = (search rules, search rules, dealing _ _ _ (search rules) (search rules))
