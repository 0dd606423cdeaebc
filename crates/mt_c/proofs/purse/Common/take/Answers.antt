use Rattle.mt_c.proofs.Prelude.{All, subst, IfOk, Tree, IsSparePass}
use Rattle.mt_c.proofs.purse.Common.take.Goals as goal

pub returns-clause-passes : goal.returns-clause-passes
returns-clause-passes c = subst (λ (t : Tree). IfOk c.try_take.result (λ taken. All (IsSparePass t) taken.value.passes.items)) c.args.self.now.of c.try_take.ensures.value
