use Rattle.mt_c.proofs.Prelude.{◌≡◌, ap, subst, Parts, answered, OwnTree}
use Rattle.mt_c.proofs.RangeCounts.{own_if_asked}
use Rattle.mt_c.proofs.own_tree.OwnTree.ask.Goals as goal

pub returns-clause-answer : goal.returns-clause-answer
unfolding answered
returns-clause-answer c = subst (λ (e : Parts). c.ask.result ≡ answered e c.args.query.now) (ap (λ (t : OwnTree). t.engine) c.self.view_is) c.ask.ensures.answer

pub invariant_of-self : goal.invariant_of-self
invariant_of-self c = own_if_asked c.self.inside c.ask.new.self c.self.invariant (record { rest = c.ask.ensures.rest; book = c.ask.ensures.book; kind = c.ask.ensures.kind })
