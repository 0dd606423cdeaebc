use Rattle.mt_c.proofs.Prelude.{subst, sym, Common, halted, knows, IsTriedOver}
use Rattle.mt_c.proofs.Using.{on}
use Rattle.mt_c.proofs.user.User.try_store_over.Goals as goal

pub try_store_over-requires : goal.try_store_over-requires
try_store_over-requires c = on c.deref.ensures c.args.self.now.of

pub invariant_of-self : goal.invariant_of-self
invariant_of-self c = record { of = on (sym c.deref.ensures) c.try_store_over.ensures.of; seated = c.args.self.now.seated }

pub returns-clause-tried : goal.returns-clause-tried
returns-clause-tried c =
    subst (λ (x : Common). IsTriedOver x.tree (halted c.args.self.now.walker) c.args.first c.args.last c.args.entry c.args.met.now c.try_store_over.new.met c.try_store_over.result (knows c.try_store_over.new.self)) c.deref.ensures c.try_store_over.ensures.tried
