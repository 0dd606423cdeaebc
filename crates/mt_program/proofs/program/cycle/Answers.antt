use Rattle.mt_program.proofs.Prelude.{◌∙◌, subst, sym, IsIdsText}
use Rattle.mt_program.proofs.Endings.{making_ends}
use Rattle.mt_program.proofs.program.cycle.Goals as goal

pub returns-clause-ends : goal.returns-clause-ends
returns-clause-ends g c =
    let is = subst (IsIdsText c.args.window.0 c.args.window.1 c.args.steps c.args.drops) (sym (c.as_bytes.ensures.value ∙ c.as_str.ensures.value)) c.in_ok-text.ensures in
    making_ends (IsIdsText c.args.window.0 c.args.window.1 c.args.steps c.args.drops) c.print.result _ _ _ _ _ is c.print.ensures.ends
