use Rattle.mt_c.proofs.Prelude.{Ok, subst, sym, Load, Common, IsWalkAnswer, knows}
use Rattle.mt_c.proofs.Using.{on}
use Rattle.mt_c.proofs.user.User.load.Goals as goal

pub load-requires : goal.load-requires
load-requires c = on c.deref.ensures c.args.self.now.of

pub invariant_of-self : goal.invariant_of-self
invariant_of-self c = record { of = on (sym c.deref.ensures) c.load.ensures.of; seated = c.args.self.now.seated }

pub returns-clause-answer : goal.returns-clause-answer
returns-clause-answer c = subst (λ (x : Common). IsWalkAnswer x.tree (knows c.args.self.now.walker) (Load c.args.index) (Ok c.load.result) (knows c.load.new.self)) c.deref.ensures c.load.ensures.answer
