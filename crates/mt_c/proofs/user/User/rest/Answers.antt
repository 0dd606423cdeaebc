use Rattle.mt_c.proofs.Prelude.{sym}
use Rattle.mt_c.proofs.Using.{on}
use Rattle.mt_c.proofs.user.User.rest.Goals as goal

pub rest-requires : goal.rest-requires
rest-requires c = on c.deref.ensures c.args.self.now.of

pub invariant_of-self : goal.invariant_of-self
invariant_of-self c = record { of = on (sym c.deref.ensures) c.rest.ensures.of; seated = c.args.self.now.seated }
