use Rattle.mt_rule.proofs.Prelude.{rules, arith, ◌≡◌, dead_mark}
use Rattle.mt_rule.proofs.Writing.{column_of}
use Rattle.mt_rule.proofs.WritingRows.{burying}
use Rattle.mt_rule.proofs.table.MtTable.bury_at.Goals as goal

pub store-requires : goal.store-requires
store-requires g c =
    let at = column_of c.args.self.now c.args.pen.now c.args.row 0 c.column_index-at.result c.requires.pen c.requires.may.at c.column_index-at.ensures in
    let mark : c.parent_word.result ≡ dead_mark c.args.row = omega (arith, c.parent_word.ensures) in
    (search rules, at.inside, rw (c.requires.announced, at.is, mark) (burying _ _ _ _ c.args.row (search rules) at.above at.below c.requires.may))
