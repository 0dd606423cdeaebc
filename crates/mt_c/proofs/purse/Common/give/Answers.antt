use Rattle.mt_c.proofs.Prelude.{All, subst, sym, Tree, IsSparePass}
use Rattle.mt_c.proofs.purse.Common.give.Goals as goal

pub give-requires-clause-value : goal.give-requires-clause-value
give-requires-clause-value c = subst (λ (t : Tree). All (IsSparePass t) c.args.taken.value.passes.items) (sym c.args.self.now.of) c.requires.passes
