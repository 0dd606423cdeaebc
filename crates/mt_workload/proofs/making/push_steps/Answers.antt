use Rattle.mt_workload.proofs.Prelude.{◌≡◌, ◌++◌, ◌∷◌, [], ap, sym, ◌∙◌, step}
use Rattle.mt_workload.proofs.Dealing.{state_more, state_none, step_more, steps_none}
use Rattle.mt_workload.proofs.making.push_steps.Goals as goal

pub loop-step-preserved : goal.loop-step-preserved
loop-step-preserved c =
    let item : c.step.result ≡ (step c.loop-step.draws).0 = ap (λ p. p.0) c.step.ensures in
    let state : c.step.new.draws ≡ (step c.loop-step.draws).1 = ap (λ p. p.1) c.step.ensures in
    let pushed : c.push.new.self ≡ c.loop-step.lines ++ c.step.result ∷ [] = c.in_ok-push.ensures in
    rw (pushed, item, state) (
      step_more c.loop-step.lines c.args.count c.loop-step._step c.loop-step.draws c.loop-step-test.true ∙ c.loop-step.invariant.0,
      state_more c.args.count c.loop-step._step c.loop-step.draws c.loop-step-test.true ∙ c.loop-step.invariant.1,
    )

pub returns-clause-lines : goal.returns-clause-lines
returns-clause-lines c = sym (steps_none c.loop-step.lines c.args.count c.loop-step._step c.loop-step.draws c.loop-step-test.false) ∙ c.loop-step.invariant.0

pub returns-clause-drawn : goal.returns-clause-drawn
returns-clause-drawn c = sym (state_none c.args.count c.loop-step._step c.loop-step.draws c.loop-step-test.false) ∙ c.loop-step.invariant.1
