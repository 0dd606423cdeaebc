use Rattle.mt_c.proofs.Prelude.{All, subst, IfOk, Common, IsSparePass}
use Rattle.mt_c.proofs.user.User.take_purse.Goals as goal

pub returns-clause-passes : goal.returns-clause-passes
returns-clause-passes c = subst (λ (x : Common). IfOk c.take_room.result (λ taken. All (IsSparePass x.tree) taken.value.passes.items)) c.deref.ensures c.take_room.ensures.passes
