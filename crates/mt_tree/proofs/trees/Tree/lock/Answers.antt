use Rattle.mt_tree.proofs.Prelude.{rules, subst, pass_in, opened}
use Rattle.mt_base.specs.Passes as known
use Rattle.mt_tree.proofs.Showing.{callers_shown}
use Rattle.mt_tree.proofs.Trying.{tries_once}
use Rattle.mt_tree.proofs.trees.Tree.lock.Goals as goal

pub invariant_of-result : goal.invariant_of-result
invariant_of-result g c = search rules

pub returns-clause-saw : goal.returns-clause-saw
returns-clause-saw g c = subst (λ (p : known.Pass). known.Saw (opened c.args.self.now) p (pass_in c.show.new.pass)) c.take-taken.ensures.known c.show.ensures.shown.saw

pub returns-clause-callers : goal.returns-clause-callers
returns-clause-callers g c = callers_shown c.args.self.now _ _ _ c.show.ensures.shown c.show.ensures.shape

pub returns-clause-tries : goal.returns-clause-tries
returns-clause-tries g c = tries_once _ _ _ c.take-taken.ensures.tries c.show.ensures.rests
