use Rattle.mt_c.proofs.Prelude.{subst, sym, Common, paused, knows, HasLoadedMany}
use Rattle.mt_c.proofs.Using.{on}
use Rattle.mt_c.proofs.user.User.load_many.Goals as goal

pub load_many-requires : goal.load_many-requires
load_many-requires c = on c.deref.ensures c.args.self.now.of

pub invariant_of-self : goal.invariant_of-self
invariant_of-self c = record { of = on (sym c.deref.ensures) c.load_many.ensures.of; seated = c.args.self.now.seated }

pub returns-clause-loaded : goal.returns-clause-loaded
returns-clause-loaded c =
    subst (λ (x : Common). HasLoadedMany x.tree (paused c.args.self.now) c.args.indexes.now c.args.entries.now c.load_many.result c.load_many.new.entries (knows c.load_many.new.self)) c.deref.ensures c.load_many.ensures.loaded
