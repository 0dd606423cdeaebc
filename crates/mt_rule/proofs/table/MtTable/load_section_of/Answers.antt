use Rattle.mt_rule.proofs.Prelude.{rules}
use Rattle.mt_rule.proofs.Writing.{section_inside}
use Rattle.mt_rule.proofs.WritingScans.{scanning}
use Rattle.mt_rule.proofs.table.MtTable.load_section_of.Goals as goal

pub load-requires : goal.load-requires
load-requires g c =
    rw (c.requires.announced, c.section_index.ensures)
    (search rules, section_inside c.args.self.now c.args.pen.now c.args.pass c.requires.pen c.requires.pass, scanning _ _ _ _ _ (search rules) (search rules))
