use Rattle.mt_bench.proofs.Prelude.{rules, All, subst, Tree, IsPassOf}
use Rattle.mt_bench.proofs.callers.TimedCaller.sharing.Goals as goal

pub each-requires : goal.each-requires
each-requires g c = subst (λ (x : Tree). All (IsPassOf x) c.args.passes.items) (search rules) c.requires
