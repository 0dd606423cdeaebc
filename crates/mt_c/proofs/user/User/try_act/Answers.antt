use Rattle.mt_c.proofs.Prelude.{sym}
use Rattle.mt_c.proofs.Using.{on}
use Rattle.mt_c.proofs.user.User.try_act.Goals as goal

pub try_act-requires : goal.try_act-requires
try_act-requires c = on c.deref.ensures c.args.self.now.of

pub invariant_of-self : goal.invariant_of-self
invariant_of-self c = record { of = on (sym c.deref.ensures) c.try_act.ensures.of; seated = c.args.self.now.seated }
