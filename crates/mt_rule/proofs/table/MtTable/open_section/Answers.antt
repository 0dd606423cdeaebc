use Rattle.mt_rule.proofs.Prelude.{rules}
use Rattle.mt_rule.proofs.ReadingPlaces.{section_below}
use Rattle.mt_rule.proofs.ReadingSteps.{opening_at}
use Rattle.mt_rule.proofs.table.MtTable.open_section.Goals as goal

pub store-requires : goal.store-requires
store-requires g c = (search rules, section_below c.args.self.now c.args.pass.now.number _ (search rules) (search rules), opening_at _ _ _ _ _ _ (search rules) (search rules) (search rules))
