use Rattle.mt_c.proofs.Prelude.{◌≡◌, ap, subst, Load, Parts, Range, option_map, answered, OwnTree}
use Rattle.mt_c.proofs.RangeCounts.{own_if_asked}
use Rattle.mt_c.proofs.own_tree.OwnTree.load.Goals as goal

pub returns-clause-entry : goal.returns-clause-entry
unfolding answered
returns-clause-entry c = subst (λ (e : Parts). c.load.result ≡ option_map (λ (r : Range). r.entry) (answered e (Load c.args.index))) (ap (λ (t : OwnTree). t.engine) c.self.view_is) c.load.ensures.entry

pub invariant_of-self : goal.invariant_of-self
invariant_of-self c = own_if_asked c.self.inside c.load.new.self c.self.invariant (record { rest = c.load.ensures.rest; book = c.load.ensures.book; kind = c.load.ensures.kind })
