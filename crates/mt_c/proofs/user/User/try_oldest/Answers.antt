use Rattle.mt_c.proofs.Prelude.{subst, sym, Common, IsOldest, IsFoundIn, knows, shut}
use Rattle.mt_c.proofs.Using.{on}
use Rattle.mt_c.proofs.user.User.try_oldest.Goals as goal

pub try_oldest-requires : goal.try_oldest-requires
try_oldest-requires c = on c.deref.ensures c.args.self.now.of

pub invariant_of-self : goal.invariant_of-self
invariant_of-self c = record { of = on (sym c.deref.ensures) c.try_oldest.ensures.of; seated = c.args.self.now.seated }

pub returns-clause-found : goal.returns-clause-found
returns-clause-found c = subst (λ (x : Common). IsFoundIn IsOldest x.tree (shut c.args.self.now.walker) c.try_oldest.result (knows c.try_oldest.new.self)) c.deref.ensures c.try_oldest.ensures.found
