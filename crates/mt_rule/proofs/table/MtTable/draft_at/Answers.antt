use Rattle.mt_rule.proofs.Prelude.{rules}
use Rattle.mt_rule.proofs.Writing.{column_of}
use Rattle.mt_rule.proofs.WritingRows.{drafting}
use Rattle.mt_rule.proofs.table.MtTable.draft_at.Goals as goal

pub store-requires : goal.store-requires
store-requires g c =
    let at = column_of c.args.self.now c.args.pen.now c.args.row c.args.col c.column_index-at.result c.requires.pen c.requires.place c.column_index-at.ensures in
    (search rules, at.inside, rw (c.requires.announced.0, c.requires.announced.1, at.is) (drafting _ _ _ _ c.args.row c.args.col c.args.word (search rules) at.above at.below c.requires.place c.requires.free))
