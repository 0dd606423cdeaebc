use Rattle.mt_c.proofs.Prelude.{subst, sym, Common, halted, knows, IsTriedEach}
use Rattle.mt_c.proofs.Using.{on}
use Rattle.mt_c.proofs.user.User.try_each.Goals as goal

pub try_each-requires : goal.try_each-requires
try_each-requires c = on c.deref.ensures c.args.self.now.of

pub invariant_of-self : goal.invariant_of-self
invariant_of-self c = record { of = on (sym c.deref.ensures) c.try_each.ensures.of; seated = c.args.self.now.seated }

pub returns-clause-tried : goal.returns-clause-tried
returns-clause-tried c = subst (λ (x : Common). IsTriedEach x.tree (halted c.args.self.now.walker) c.args.calls.now c.try_each.new.calls c.try_each.result (knows c.try_each.new.self)) c.deref.ensures c.try_each.ensures.tried
