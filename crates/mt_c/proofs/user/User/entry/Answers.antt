use Rattle.mt_c.proofs.Prelude.{subst, sym, Common, paused, knows, IsEntry}
use Rattle.mt_c.proofs.Using.{on}
use Rattle.mt_c.proofs.user.User.entry.Goals as goal

pub entry-requires : goal.entry-requires
entry-requires c = on c.deref.ensures c.args.self.now.of

pub invariant_of-self : goal.invariant_of-self
invariant_of-self c = record { of = on (sym c.deref.ensures) c.entry.ensures.of; seated = c.args.self.now.seated }

pub returns-clause-entry : goal.returns-clause-entry
returns-clause-entry c = subst (λ (x : Common). IsEntry x.tree (paused c.args.self.now) c.args.index c.entry.result (knows c.entry.new.self)) c.deref.ensures c.entry.ensures.entry
