use Rattle.mt_c.proofs.Prelude.{subst, sym, Common, IsFormBehind, IsFoundIn, knows, shut}
use Rattle.mt_c.proofs.Using.{on}
use Rattle.mt_c.proofs.user.User.try_check.Goals as goal

pub try_check-requires : goal.try_check-requires
try_check-requires c = on c.deref.ensures c.args.self.now.of

pub invariant_of-self : goal.invariant_of-self
invariant_of-self c = record { of = on (sym c.deref.ensures) c.try_check.ensures.of; seated = c.args.self.now.seated }

pub returns-clause-found : goal.returns-clause-found
returns-clause-found c = subst (λ (x : Common). IsFoundIn IsFormBehind x.tree (shut c.args.self.now.walker) c.try_check.result (knows c.try_check.new.self)) c.deref.ensures c.try_check.ensures.found
