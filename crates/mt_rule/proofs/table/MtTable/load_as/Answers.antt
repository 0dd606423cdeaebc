use Rattle.mt_rule.proofs.Prelude.{rules}
use Rattle.mt_rule.proofs.table.MtTable.load_as.Goals as goal

pub load-word-requires : goal.load-word-requires
load-word-requires g c = (search rules, search rules, c.requires.may _ _ _ (search rules) (search rules))
