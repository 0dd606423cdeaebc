use Rattle.mt_c.proofs.Prelude.{sym}
use Rattle.mt_c.proofs.Using.{on}
use Rattle.mt_c.proofs.user.User.pause.Goals as goal

pub pause-requires : goal.pause-requires
pause-requires c = on c.deref.ensures c.args.self.now.of

pub invariant_of-self : goal.invariant_of-self
invariant_of-self c = record { of = on (sym c.deref.ensures) c.pause.ensures.of; seated = c.args.self.now.seated }
