use Rattle.mt_rule.proofs.Prelude.{rules, subst, IsWordPlace, rooted_in, pen_in}
use Rattle.mt_rule.proofs.Writing.{column_of, looking, looking_at_root, root_inside}
use Rattle.mt_rule.proofs.table.MtTable.load_word.Goals as goal

pub load-requires : goal.load-requires
load-requires g c = (search rules, root_inside c.args.self.now, looking_at_root _ _ _ _ (search rules))

pub load-requires-in-Slot : goal.load-requires-in-Slot
load-requires-in-Slot g c =
    let place = subst (IsWordPlace (rooted_in (pen_in c.args.pen.now))) c.in-Slot.is c.requires.place in
    let at = column_of c.args.self.now c.args.pen.now c.in-Slot.row c.in-Slot.col c.column_index-word.result c.requires.pen place c.column_index-word.ensures in
    (search rules, at.inside, rw at.is (looking _ _ _ _ _ (search rules) at.above))
