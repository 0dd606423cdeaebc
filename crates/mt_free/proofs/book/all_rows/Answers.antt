use Rattle.mt_free.proofs.Prelude.{◌-◌, arith, ◌∙◌}
use Rattle.mt_free.proofs.Books.{rows_down_more}
use Rattle.mt_free.proofs.book.all_rows.Goals as goal

pub loop-n-preserved : goal.loop-n-preserved
loop-n-preserved c = record {
  items = rw c.push_free.ensures.items (rows_down_more c.loop-n.free.items c.loop-n.n (c.loop-n.n - 1) (omega arith) ∙ c.loop-n.invariant.items);
  counted = omega arith;
  room = omega arith;
}
