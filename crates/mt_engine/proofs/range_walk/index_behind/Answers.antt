use Rattle.mt_engine.proofs.Prelude.{arith, greatest_fits}
use Rattle.mt_engine.proofs.range_walk.index_behind.Goals as goal

pub overflow_add-result : goal.overflow_add-result
overflow_add-result c = (let fits = greatest_fits c.args.width in omega (arith, c.requires, c.top.ensures, c.if-last-top.false))
