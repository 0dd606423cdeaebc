use Rattle.mt_tree.proofs.Prelude.{◌≤◌, subst, All, take_all, Kind, Width, columns, kind_width}
use Rattle.mt_base.specs.declared.kinds.Kind.TheVariants.{Range}
use Rattle.mt_tree.proofs.NoneWritten.{one_more_within}
use Rattle.mt_tree.proofs.zeros.widest.Goals as goal

pub loop-kind-preserved : goal.loop-kind-preserved
loop-kind-preserved c =
    one_more_within c.args.kinds.now c.loop-kind.kind-index Range c.loop-kind.widest c.wider-widest.result c.loop-kind-test.true c.loop-kind.invariant c.wider-widest.ensures.first
    (subst (λ (width : Width). columns width ≤ columns c.wider-widest.result) c.width_of.ensures c.wider-widest.ensures.second)

pub returns : goal.returns
returns c = subst (All (λ (kind : Kind). columns (kind_width kind) ≤ columns c.loop-kind.widest)) (take_all c.loop-kind.kind-index c.args.kinds.now c.loop-kind-test.false) c.loop-kind.invariant
