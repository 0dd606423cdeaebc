use Rattle.mt_splice.proofs.Prelude.{arith}
use Rattle.mt_splice.proofs.WholeLevels.{none_noted, one_noted, all_noted}
use Rattle.mt_splice.proofs.climbing.push_above.Goals as goal

pub loop-upper-init : goal.loop-upper-init
loop-upper-init c = none_noted

pub window_on-requires-clause-left : goal.window_on-requires-clause-left
window_on-requires-clause-left c = let low = c.loop-upper.invariant.low in let deep = c.requires.left in let more = c.loop-upper-test.true in omega arith

pub window_on-requires-clause-right : goal.window_on-requires-clause-right
window_on-requires-clause-right c = let low = c.loop-upper.invariant.low in let deep = c.requires.right in let more = c.loop-upper-test.true in omega arith

pub push-requires : goal.push-requires
push-requires c = let long = c.loop-upper.invariant.long in let room = c.requires.room in let more = c.loop-upper-test.true in omega arith

pub loop-upper-preserved : goal.loop-upper-preserved
loop-upper-preserved c = one_noted c.loop-upper.invariant c.loop-upper-test.true c.push.ensures.items c.window_on.ensures.first c.window_on.ensures.last

pub returns : goal.returns
returns c = all_noted c.loop-upper.invariant c.loop-upper-test.false
