use Rattle.mt_rule.proofs.Prelude.{rules, arith}
use Rattle.mt_rule.proofs.Counting.{counter_inside}
use Rattle.mt_rule.proofs.Ending.{beginning}
use Rattle.mt_rule.proofs.table.MtTable.store_begun.Goals as goal

pub store-requires : goal.store-requires
store-requires c = (search rules, counter_inside c.args.self.now 1 (omega arith), beginning _ _ _ _ _ (search rules) (search rules) (search rules) (search rules))
