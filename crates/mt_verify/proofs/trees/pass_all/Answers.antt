use Rattle.mt_verify.proofs.Prelude.{ap, sym, ◌∙◌, subst, Contents, HavePassed}
use Rattle.mt_verify.proofs.WholeTrees.{pass_both}
use Rattle.mt_verify.proofs.trees.pass_all.Goals as goal

pub returns-clause-passed : goal.returns-clause-passed
returns-clause-passed c = λ m at on.
    pass_both m c.args.number c.advance_all.new.tracks c.pass.new.self c.pass.result
    (subst (HavePassed m c.args.number c.advance_all.new.tracks) c.if-not-branch.false (c.in_ok-advance_all.ensures.passed m at on.0))
    (c.pass.ensures.passed m (at ∙ ap (λ (x : Contents). x.ranges) (sym c.in_ok-advance_all.ensures.map)) on.1)
