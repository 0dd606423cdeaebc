use Rattle.mt_engine.proofs.Measured.{measured_first}
use Rattle.mt_engine.proofs.engine.Engine.new.Goals as goal

pub invariant_of-result : goal.invariant_of-result
invariant_of-result g c = measured_first c.args.kind (g.R.Rows.sheet c.args.rows) (g.R.Rows.sheet c.height_of-height.new.rows) c.args.book c.height_of-height.result c.requires c.height_of-height.ensures.reads.rest c.height_of-height.ensures.height
