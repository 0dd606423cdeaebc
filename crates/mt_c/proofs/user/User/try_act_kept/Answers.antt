use Rattle.mt_c.proofs.Prelude.{subst, sym, Common, halted, knows, IsTriedKept}
use Rattle.mt_c.proofs.Using.{on}
use Rattle.mt_c.proofs.user.User.try_act_kept.Goals as goal

pub try_act_kept-requires : goal.try_act_kept-requires
try_act_kept-requires c = on c.deref.ensures c.args.self.now.of

pub invariant_of-self : goal.invariant_of-self
invariant_of-self c = record { of = on (sym c.deref.ensures) c.try_act_kept.ensures.of; seated = c.args.self.now.seated }

pub returns-clause-tried : goal.returns-clause-tried
returns-clause-tried c = subst (λ (x : Common). IsTriedKept x.tree (halted c.args.self.now.walker) c.args.call.now c.try_act_kept.result (knows c.try_act_kept.new.self)) c.deref.ensures c.try_act_kept.ensures.tried
