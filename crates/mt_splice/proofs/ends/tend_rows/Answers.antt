use Rattle.mt_splice.proofs.EndTending.{next_row_tended, all_rows_tended}
use Rattle.mt_splice.proofs.ends.tend_rows.Goals as goal

pub loop-new-preserved : goal.loop-new-preserved
loop-new-preserved g c =
    next_row_tended (g.R.Rows.sheet c.args.rows.now) (g.R.Rows.sheet c.loop-new.rows) (g.R.Rows.sheet c.tend_children.new.rows) c.args.kind c.args.new_inner_rows.now c.loop-new.new-index (record { row = 0; count = 0 })
    c.loop-new.invariant c.loop-new-test.true c.tend_children.ensures

pub returns : goal.returns
returns g c =
    all_rows_tended (g.R.Rows.sheet c.args.rows.now) (g.R.Rows.sheet c.loop-new.rows) c.args.kind c.args.new_inner_rows.now c.loop-new.new-index c.loop-new-test.false c.loop-new.invariant
