use Rattle.mt_program.proofs.Prelude.{◌∙◌, subst, sym, IsTrialText}
use Rattle.mt_program.proofs.Endings.{making_ends}
use Rattle.mt_program.proofs.program.trial.Goals as goal

pub returns-clause-ends : goal.returns-clause-ends
returns-clause-ends g c =
    let is = subst (IsTrialText c.args.number c.args.steps) (sym (c.as_bytes.ensures.value ∙ c.as_str.ensures.value)) c.in_ok-text.ensures.text in
    making_ends (IsTrialText c.args.number c.args.steps) c.print.result _ _ _ _ _ is c.print.ensures.ends
