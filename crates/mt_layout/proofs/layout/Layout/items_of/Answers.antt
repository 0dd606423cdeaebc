use Rattle.mt_layout.proofs.Prelude.{arith, zero-add}
use Rattle.mt_layout.proofs.Reading.{read_last, read_more, read_all}
use Rattle.mt_layout.proofs.layout.Layout.items_of.Goals as goal

pub loop-i-preserved : goal.loop-i-preserved
loop-i-preserved g c = record {
  read = rw c.push.ensures.items
      (read_more g.row.SLOTS g.row.GAPS c.args.words.now 0 c.args.max _ _ c.loop-i.i c.item_in-item.result c.loop-i.invariant.read
      c.loop-i-test.true (c.item_in-item.ensures.item, rw zero-add c.item_in-item.ensures.last) c.if-max-item.false);
  count = omega arith;
}

pub returns-after-loop-i : goal.returns-after-loop-i
returns-after-loop-i g c =
    read_all g.row.SLOTS g.row.GAPS c.args.words.now 0 c.args.max _ _ c.loop-i.i c.loop-i.invariant.read (omega arith)

pub returns-then-max-item : goal.returns-then-max-item
returns-then-max-item g c =
    rw c.push.ensures.items
    (read_last g.row.SLOTS g.row.GAPS c.args.words.now 0 c.args.max _ _ c.loop-i.i c.item_in-item.result c.loop-i.invariant.read
    c.loop-i-test.true (c.item_in-item.ensures.item, rw zero-add c.item_in-item.ensures.last) c.if-max-item.true)
