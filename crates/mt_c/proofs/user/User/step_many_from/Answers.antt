use Rattle.mt_c.proofs.Prelude.{subst, sym, Common, PutsMany}
use Rattle.mt_c.proofs.Using.{on}
use Rattle.mt_c.proofs.user.User.step_many_from.Goals as goal

pub step_many_from-requires : goal.step_many_from-requires
step_many_from-requires c = on c.deref.ensures c.args.self.now.of

pub invariant_of-self : goal.invariant_of-self
invariant_of-self c = record { of = on (sym c.deref.ensures) c.step_many_from.ensures.of; seated = c.args.self.now.seated }

pub returns-clause-stepped : goal.returns-clause-stepped
returns-clause-stepped c =
    subst (λ (x : Common). PutsMany x.tree c.args.self.now.walker c.args.place c.args.ranges.now c.step_many_from.new.ranges c.step_many_from.result.0 c.step_many_from.result.1 c.step_many_from.new.self) c.deref.ensures c.step_many_from.ensures.stepped
