use Rattle.mt_c.proofs.Prelude.{subst, map_by, OwnTree, range_out, TellsMet, ranges_met}
use Rattle.mt_c.proofs.RangeCounts.{own_if_asked}
use Rattle.mt_c.proofs.own_tree.OwnTree.tell_met.Goals as goal

pub returns-clause-tells : goal.returns-clause-tells
returns-clause-tells c =
    subst (λ (t : OwnTree). TellsMet range_out (ranges_met (map_by t.engine.sheet.tree) c.args.first c.args.last) c.args.met.now c.tell_met.new.met c.tell_met.result) c.self.view_is c.tell_met.ensures.tells

pub invariant_of-self : goal.invariant_of-self
invariant_of-self c = own_if_asked c.self.inside c.tell_met.new.engine c.self.invariant (record { rest = c.tell_met.ensures.rest; book = c.tell_met.ensures.book; kind = c.tell_met.ensures.kind })
