use Rattle.mt_rule.proofs.Prelude.{rules, arith, ℕ, ◌<◌, sym, ap, ◌∙◌, subst, kind_width, IsPlaceToPublish, pen_sheet, pen_in}
use Rattle.mt_rule.proofs.Counting.{counter_inside}
use Rattle.mt_rule.proofs.Publishing.{index_of, publishing}
use Rattle.mt_rule.proofs.Writing.{column_of}
use Rattle.mt_rule.proofs.table.MtTable.publish_announced.Goals as goal
use Rattle.mt_rule.proofs.table.MtTable.publish_announced.Goals.{in-Root, in-Slot}

pub store-requires : goal.store-requires
store-requires g c = elim c.match-place.branch [
  | in-Root w ↦ (
    search rules,
    subst (λ (n : ℕ). n < c.args.self.now.table.shared.table_id.words) (sym w.at-is) (counter_inside c.args.self.now 2 (omega arith)),
    rw (c.requires.announced.0, c.requires.announced.1, c.requires.announced.2)
        (publishing _ _ _ _ c.match-place.at c.args.word c.args.place c.args.call.now c.args.reply.now (search rules) (search rules)
        (w.at-is ∙ sym (ap (index_of (kind_width (pen_in c.args.pen.now).shape.kind)) w.in-Root.is)) c.requires.may),
  )
  | in-Slot w ↦
      let place = subst (IsPlaceToPublish (pen_sheet (pen_in c.args.pen.now))) w.in-Slot.is c.requires.may.at in
      let at = column_of c.args.self.now c.args.pen.now w.in-Slot.row w.in-Slot.col w.column_index-at.result c.requires.pen place.0 w.column_index-at.ensures in (
        search rules,
        subst (λ (n : ℕ). n < c.args.self.now.table.shared.table_id.words) (sym w.at-is) at.inside,
        rw (c.requires.announced.0, c.requires.announced.1, c.requires.announced.2)
            (publishing _ _ _ _ c.match-place.at c.args.word c.args.place c.args.call.now c.args.reply.now (search rules) (search rules)
            (w.at-is ∙ (at.is ∙ sym (ap (index_of (kind_width (pen_in c.args.pen.now).shape.kind)) w.in-Slot.is))) c.requires.may),
      )
]
