use Rattle.mt_rule.proofs.Prelude.{rules}
use Rattle.mt_rule.proofs.ReadingPlaces.{section_below}
use Rattle.mt_rule.proofs.ReadingSteps.{closing_at}
use Rattle.mt_rule.proofs.table.MtTable.close_section.Goals as goal

pub store-requires : goal.store-requires
store-requires g c = (search rules, section_below c.args.self.now c.args.pass.now.number _ (search rules) (search rules), closing_at _ _ _ _ _ (search rules) (search rules))
