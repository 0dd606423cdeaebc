use Rattle.mt_c.proofs.Prelude.{own_of}
use Rattle.mt_c.proofs.Walking.{stepped}
use Rattle.mt_c.proofs.RangeCounts.{own_if_walked}
use Rattle.mt_c.proofs.own_tree.OwnTree.step.Goals as goal

pub returns : goal.returns
returns c =
    stepped (own_of c.self.inside) c.stand_at.new.self c.args.self.now c.next_range.new.self c.next_range.new.walk c.args.index c.next_range.result c.self.view_is
    c.stand_at.ensures.engine c.stand_at.ensures.next c.stand_at.ensures.kept (record { rest = c.next_range.ensures.rest; book = c.next_range.ensures.book; kind = c.next_range.ensures.kind })
    c.next_range.ensures.range c.next_range.ensures.next c.next_range.ensures.near

pub invariant_of-self : goal.invariant_of-self
invariant_of-self c =
    own_if_walked c.self.inside c.next_range.new.self c.next_range.new.walk c.self.invariant (record { rest = c.next_range.ensures.rest; book = c.next_range.ensures.book; kind = c.next_range.ensures.kind }) c.next_range.ensures.walk
