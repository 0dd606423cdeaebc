use Rattle.mt_c.proofs.Prelude.{All, subst, sym, Common, IsSparePass}
use Rattle.mt_c.proofs.Using.{on}
use Rattle.mt_c.proofs.user.User.leave_to.Goals as goal

pub leave-requires-clause-passes : goal.leave-requires-clause-passes
leave-requires-clause-passes c = subst (λ (x : Common). All (IsSparePass x.tree) c.args.taken.value.passes.items) (sym c.deref.ensures) c.requires.passes

pub leave-requires-clause-pass : goal.leave-requires-clause-pass
leave-requires-clause-pass c = on c.deref.ensures c.args.self.of
