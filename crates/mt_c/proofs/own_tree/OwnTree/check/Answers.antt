use Rattle.mt_c.proofs.Prelude.{ap, OwnTree}
use Rattle.mt_c.proofs.Reading.{form_in}
use Rattle.mt_c.proofs.RangeCounts.{own_if_asked}
use Rattle.mt_c.proofs.own_tree.OwnTree.check.Goals as goal

pub returns-clause-form : goal.returns-clause-form
returns-clause-form c = form_in _ _ _ c.check_in.ensures.form (ap (λ (t : OwnTree). t.engine) c.self.view_is)

pub invariant_of-self : goal.invariant_of-self
invariant_of-self c = own_if_asked c.self.inside c.check_in.new.engine c.self.invariant c.check_in.ensures.rest
