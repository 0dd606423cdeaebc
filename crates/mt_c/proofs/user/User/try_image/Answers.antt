use Rattle.mt_c.proofs.Prelude.{subst, sym, Common, IsFoundIn, IsImagedBehind, knows, shut}
use Rattle.mt_c.proofs.Using.{on}
use Rattle.mt_c.proofs.user.User.try_image.Goals as goal

pub try_image-requires : goal.try_image-requires
try_image-requires c = on c.deref.ensures c.args.self.now.of

pub invariant_of-self : goal.invariant_of-self
invariant_of-self c = record { of = on (sym c.deref.ensures) c.try_image.ensures.of; seated = c.args.self.now.seated }

pub returns-clause-found : goal.returns-clause-found
returns-clause-found c = subst (λ (x : Common). IsFoundIn IsImagedBehind x.tree (shut c.args.self.now.walker) c.try_image.result (knows c.try_image.new.self)) c.deref.ensures c.try_image.ensures.found
