use Rattle.mt_c.proofs.Prelude.{ap, subst, sym, ◌∙◌, opened, Common, IsTriedCopy}
use Rattle.mt_c.proofs.Using.{on}
use Rattle.mt_c.proofs.user.User.try_dup.Goals as goal

pub try_dup-requires-clause-of : goal.try_dup-requires-clause-of
try_dup-requires-clause-of c = on c.deref.ensures c.args.self.now.of

pub try_dup-requires-clause-kind : goal.try_dup-requires-clause-kind
try_dup-requires-clause-kind c = c.requires ∙ sym (ap (λ (x : Common). (opened x.tree).kind) c.deref.ensures)

pub invariant_of-self : goal.invariant_of-self
invariant_of-self c = record { of = on (sym c.deref.ensures) c.try_dup.ensures.of; seated = c.args.self.now.seated }

pub returns-clause-tried : goal.returns-clause-tried
returns-clause-tried c = subst (λ (x : Common). IsTriedCopy c.args.shape x.tree c.args.self.now.walker c.try_dup.result c.try_dup.new.self) c.deref.ensures c.try_dup.ensures.tried
