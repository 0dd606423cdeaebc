use Rattle.mt_c.proofs.Prelude.{sym}
use Rattle.mt_c.proofs.Using.{at, on}
use Rattle.mt_c.proofs.user.User.settle.Goals as goal

pub settle-requires-clause-of : goal.settle-requires-clause-of
settle-requires-clause-of c = on c.deref.ensures c.args.self.now.of

pub invariant_of-self : goal.invariant_of-self
invariant_of-self c = record { of = on (sym c.deref.ensures) c.settle.ensures.of; seated = at (sym c.deref.ensures) c.settle.ensures.seated }
