use Rattle.mt_c.proofs.RangeCounts.{own_if_asked}
use Rattle.mt_c.proofs.own_tree.OwnTree.image.Goals as goal

pub invariant_of-self : goal.invariant_of-self
invariant_of-self c = own_if_asked c.self.inside c.image_in.new.engine c.self.invariant c.image_in.ensures.rest
