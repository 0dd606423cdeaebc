use Rattle.mt_leaf.proofs.CutLaws.{one_row, two_rows, three_rows}
use Rattle.mt_leaf.proofs.cuts.cut_towards.Goals as goal
use Rattle.mt_leaf.proofs.cuts.cut_towards.Goals.{then-most-count+then-max-most, then-most-count+else-max-most, else-most-count}

pub returns-clause-cut : goal.returns-clause-cut
returns-clause-cut c =
    let items = c.args.items.now in
    elim c.if-most-count.branch [
      | then-most-count+then-max-most w ↦
          let fits = rw w.max.ensures at w.if-max-most.true in
          rw (c.push-2.ensures.items, w.ends-is, w.push.ensures.items, c.new-ends.ensures)
          (two_rows c.args.leaf c.args.least c.args.most items c.args.towards w.meeting_place-place.result c.requires.sizes w.if-most-count.true w.meeting_place-place.ensures fits)
      | then-most-count+else-max-most w ↦
          let more = rw w.max.ensures at w.if-max-most.false in
          rw (c.push-2.ensures.items, w.ends-is, w.push-else-max-most-2.ensures.items, w.push-else-max-most.ensures.items, c.new-ends.ensures)
          (three_rows c.args.leaf c.args.least c.args.most items c.args.towards w.meeting_place-place.result w.full_end.result w.full_end-else-max-most.result c.requires.sizes c.requires.few w.if-most-count.true
          w.meeting_place-place.ensures more w.full_end.ensures w.full_end-else-max-most.ensures)
      | else-most-count w ↦ rw (c.push-2.ensures.items, w.ends-is, c.new-ends.ensures) (one_row c.args.leaf c.args.least c.args.most items c.args.towards w.if-most-count.false)
    ]
