use Rattle.mt_check.proofs.Prelude.{arith, ◌<◌, common_steps, slots_of}
use Rattle.mt_check.proofs.Loaded.{one_more_read, last_read, one_more_rises, last_rises}
use Rattle.mt_check.proofs.reads.read_items.Goals as goal

pub loop-slot-preserved : goal.loop-slot-preserved
loop-slot-preserved g c =
    let within : c.loop-slot.slot < slots_of (g.R.Rows.sheet c.loop-slot.rows).tree.table.width c.args.kind = grind (arith, common_steps) in (
      one_more_read (g.R.Rows.sheet c.args.rows.now) (g.R.Rows.sheet c.loop-slot.rows) (g.R.Rows.sheet c.load_item_of-item.new.rows) c.args.kind c.args.row c.args.last c.loop-slot.slot c.loop-slot.items.items c.push.new.self.items
          c.load_item_of-item.result c.loop-slot.invariant.0 c.load_item_of-item.ensures.rest c.load_item_of-item.ensures.item c.load_item_of-item.ensures.last within c.push.ensures.items c.if-last-item.false,
      one_more_rises (g.R.Rows.sheet c.args.rows.now) (g.R.Rows.sheet c.loop-slot.rows) (g.R.Rows.sheet c.load_item_of-item.new.rows) c.args.kind c.args.row c.args.last c.loop-slot.slot c.loop-slot.items.items c.push.new.self.items
          c.load_item_of-item.result c.loop-slot.invariant.0 c.load_item_of-item.ensures.rest c.load_item_of-item.ensures.item c.load_item_of-item.ensures.last within c.push.ensures.items
          c.args.first c.loop-slot.begin c.loop-slot.rise c.loop-slot.invariant.1 c.if-last-item.false,
    )

pub returns-then-last-item-clause-items : goal.returns-then-last-item-clause-items
returns-then-last-item-clause-items g c =
    let within : c.loop-slot.slot < slots_of (g.R.Rows.sheet c.loop-slot.rows).tree.table.width c.args.kind = grind (arith, common_steps) in
    last_read (g.R.Rows.sheet c.args.rows.now) (g.R.Rows.sheet c.loop-slot.rows) (g.R.Rows.sheet c.load_item_of-item.new.rows) c.args.kind c.args.row c.args.last c.loop-slot.slot c.loop-slot.items.items c.push.new.self.items
    c.load_item_of-item.result c.loop-slot.invariant.0 c.load_item_of-item.ensures.rest c.load_item_of-item.ensures.item c.load_item_of-item.ensures.last within c.push.ensures.items c.if-last-item.true

pub returns-then-last-item-clause-rise : goal.returns-then-last-item-clause-rise
returns-then-last-item-clause-rise g c =
    let within : c.loop-slot.slot < slots_of (g.R.Rows.sheet c.loop-slot.rows).tree.table.width c.args.kind = grind (arith, common_steps) in
    last_rises (g.R.Rows.sheet c.args.rows.now) (g.R.Rows.sheet c.loop-slot.rows) (g.R.Rows.sheet c.load_item_of-item.new.rows) c.args.kind c.args.row c.args.last c.loop-slot.slot c.loop-slot.items.items c.push.new.self.items
    c.load_item_of-item.result c.loop-slot.invariant.0 c.load_item_of-item.ensures.rest c.load_item_of-item.ensures.item c.load_item_of-item.ensures.last within c.push.ensures.items
    c.args.first c.loop-slot.begin c.loop-slot.rise c.loop-slot.invariant.1 c.if-last-item.true
