use Rattle.mt_splice.proofs.Prelude.{arith, ◌<◌, common_steps, slots_of}
use Rattle.mt_splice.proofs.Readings.{last_read}
use Rattle.mt_splice.proofs.reads.push_items.Goals as goal

pub returns-then-step-item-clause-items : goal.returns-then-step-item-clause-items
returns-then-step-item-clause-items g c =
    let within : c.loop-slot.slot < c.args.to = grind (arith, common_steps) in
    let slots : c.loop-slot.slot < slots_of (g.R.Rows.sheet c.loop-slot.rows).tree.table.width c.args.kind = grind (arith, common_steps) in
    last_read (g.R.Rows.sheet c.args.rows.now) (g.R.Rows.sheet c.loop-slot.rows) (g.R.Rows.sheet c.load_item-item.new.rows) c.args.kind c.args.step.now.row c.args.step.now.max c.args.from c.args.to c.loop-slot.slot
    c.args.run.now.items c.loop-slot.run.items c.push.new.self.items c.load_item-item.result c.loop-slot.invariant c.load_item-item.ensures.rest c.load_item-item.ensures.item c.load_item-item.ensures.last
    within slots c.push.ensures.items c.if-step-item.true
