use Rattle.mt_judge.proofs.Prelude.{List, Some, inr, subst, ToldLine, KeepsOrder}
use Rattle.mt_judge.proofs.judging.fault_in.Goals as goal

pub returns-in-Some : goal.returns-in-Some
returns-in-Some c =
    let order = subst (KeepsOrder c.deref.result.now) c.in-Some.is c.in_ok-fault.ensures in
    inr (subst (λ (told : List ToldLine). KeepsOrder told (Some c.in-Some.fault)) c.deref.ensures.value order)
