use Rattle.mt_c.proofs.Prelude.{own_of}
use Rattle.mt_c.proofs.ManySteps.{stepped_many}
use Rattle.mt_c.proofs.RangeCounts.{own_if_walked}
use Rattle.mt_c.proofs.own_tree.OwnTree.step_many.Goals as goal

pub returns : goal.returns
returns c =
    stepped_many (own_of c.self.inside) c.stand_at.new.self c.args.self.now c.put_steps-count.new.engine c.put_steps-count.new.walk c.args.index c.args.ranges.now c.put_steps-count.new.ranges c.put_steps-count.result
    c.self.view_is c.stand_at.ensures.engine c.stand_at.ensures.next c.put_steps-count.ensures.rest c.put_steps-count.ensures.put

pub invariant_of-self : goal.invariant_of-self
invariant_of-self c = own_if_walked c.self.inside c.put_steps-count.new.engine c.put_steps-count.new.walk c.self.invariant c.put_steps-count.ensures.rest c.put_steps-count.ensures.walk
