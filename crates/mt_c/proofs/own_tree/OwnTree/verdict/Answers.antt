use Rattle.mt_c.proofs.Prelude.{OwnTree, subst, IsReserveVerdict}
use Rattle.mt_c.proofs.RangeCounts.{own_if_judged}
use Rattle.mt_c.proofs.own_tree.OwnTree.verdict.Goals as goal

pub invariant_of-self : goal.invariant_of-self
invariant_of-self c = own_if_judged c.self.inside c.judge-verdict.new.engine c.judge-verdict.result.before c.self.invariant c.judge-verdict.ensures.rest c.judge-verdict.ensures.verdict.before

pub returns-clause-verdict : goal.returns-clause-verdict
returns-clause-verdict c = subst (λ (t : OwnTree). IsReserveVerdict t.engine c.args.call.now c.judge-verdict.result) c.self.view_is c.judge-verdict.ensures.verdict
