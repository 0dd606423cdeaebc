use Rattle.mt_c.proofs.Prelude.{subst, sym, Common, StepsTo, place_to}
use Rattle.mt_c.proofs.Using.{on}
use Rattle.mt_c.proofs.user.User.step_to.Goals as goal

pub step_to-requires : goal.step_to-requires
step_to-requires c = on c.deref.ensures c.args.self.now.of

pub invariant_of-self : goal.invariant_of-self
invariant_of-self c = record { of = on (sym c.deref.ensures) c.step_to.ensures.of; seated = c.args.self.now.seated }

pub returns-clause-stepped : goal.returns-clause-stepped
returns-clause-stepped c = subst (λ (x : Common). StepsTo x.tree c.args.self.now.walker c.args.max (place_to c.args.max c.args.place) c.step_to.result c.step_to.new.self) c.deref.ensures c.step_to.ensures.stepped
