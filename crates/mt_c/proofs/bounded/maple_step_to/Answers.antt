use Rattle.mt_c.proofs.Prelude.{rules}
use Rattle.mt_c.proofs.Bounds.{stepped_open}
use Rattle.mt_c.proofs.bounded.maple_step_to.Goals as goal

pub returns : goal.returns
returns c =
    stepped_open c.args.max c.args.walk.now c.tell.new.walk _ _ c.tell.result c.tell.new.range c.deref_mut.result.now c.step-found.new.self c.index.result c.place_to-place.result c.behind-behind.result c.place_to-goes.result c.step-found.result c.up_to-value.result
    (search rules) (search rules) c.index.ensures c.place_to-place.ensures c.step-found.ensures (search rules) c.place_to-goes.ensures c.up_to-value.ensures c.tell.ensures.status c.tell.ensures.range c.tell.ensures.walk
