use Rattle.mt_rule.proofs.Prelude.{rules, arith}
use Rattle.mt_rule.proofs.Counting.{counter_inside}
use Rattle.mt_rule.proofs.Ending.{ending}
use Rattle.mt_rule.proofs.table.MtTable.store_announced.Goals as goal

pub store-requires : goal.store-requires
store-requires g c =
    (search rules, counter_inside c.args.self.now 0 (omega arith), rw (c.requires.announced.0, c.requires.announced.1) (ending _ _ _ _ _ _ _ (search rules) (search rules) c.requires.joined.seen c.requires.may (search rules)))
