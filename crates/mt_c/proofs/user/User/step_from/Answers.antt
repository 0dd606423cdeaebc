use Rattle.mt_c.proofs.Prelude.{subst, sym, Common, StepsFrom}
use Rattle.mt_c.proofs.Using.{on}
use Rattle.mt_c.proofs.user.User.step_from.Goals as goal

pub step_from-requires : goal.step_from-requires
step_from-requires c = on c.deref.ensures c.args.self.now.of

pub invariant_of-self : goal.invariant_of-self
invariant_of-self c = record { of = on (sym c.deref.ensures) c.step_from.ensures.of; seated = c.args.self.now.seated }

pub returns-clause-stepped : goal.returns-clause-stepped
returns-clause-stepped c = subst (λ (x : Common). StepsFrom x.tree c.args.self.now.walker c.args.place c.step_from.result c.step_from.new.self) c.deref.ensures c.step_from.ensures.stepped
