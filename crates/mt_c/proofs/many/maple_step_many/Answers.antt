use Rattle.mt_c.proofs.Prelude.{rules}
use Rattle.mt_c.proofs.ManySteps.{stepped_open}
use Rattle.mt_c.proofs.many.maple_step_many.Goals as goal

pub returns : goal.returns
returns c =
    stepped_open c.args.walk.now c.from_index.result _ _ c.deref_mut.result.now c.step_many-found.new.self c.index.result c.behind-next.result c.many_status.result c.step_many-found.result
    c.args.ranges.now c.step_many-found.new.ranges (search rules) (search rules) c.index.ensures c.step_many-found.ensures (search rules) c.many_status.ensures c.from_index.ensures
