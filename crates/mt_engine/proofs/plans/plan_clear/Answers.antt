use Rattle.mt_engine.proofs.Prelude.{refl, sym, ◌∙◌}
use Rattle.mt_base.specs.declared.replies.Reply.TheVariants as reply
use Rattle.mt_engine.proofs.Slots.{none_at_root}
use Rattle.mt_engine.proofs.plans.plan_clear.Goals as goal

pub returns-then-root-eq0-clause-plan : goal.returns-then-root-eq0-clause-plan
returns-then-root-eq0-clause-plan g c = λ kind path. ((λ i. (sym (none_at_root (g.R.Rows.sheet c.args.rows.now).tree (sym c.root.ensures.word ∙ c.if-root-eq0.true)) i, reply.Ok)), λ wants. wants)

pub returns-clause-plan : goal.returns-clause-plan
returns-clause-plan g c = λ kind path. (refl, λ empty. c.if-root-eq0.false (c.root.ensures.word ∙ empty))
