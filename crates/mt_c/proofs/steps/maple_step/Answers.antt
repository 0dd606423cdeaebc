use Rattle.mt_c.proofs.Prelude.{rules}
use Rattle.mt_c.proofs.Walking.{stepped_open}
use Rattle.mt_c.proofs.steps.maple_step.Goals as goal

pub returns : goal.returns
returns c =
    stepped_open c.args.walk.now c.tell.new.walk _ _ c.deref_mut.result.now c.step-found.new.self c.index.result c.behind-behind.result c.step-found.result c.tell.result c.tell.new.range
    (search rules) (search rules) c.index.ensures c.step-found.ensures (search rules) c.tell.ensures.status c.tell.ensures.range c.tell.ensures.walk
