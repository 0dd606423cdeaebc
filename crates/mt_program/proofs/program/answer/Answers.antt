use Rattle.mt_program.proofs.Prelude.{subst, sym, IsOutput}
use Rattle.mt_program.proofs.Endings.{fails_so, reading_ends, refused_ends}
use Rattle.mt_program.proofs.Statuses.{has_turned}
use Rattle.mt_program.proofs.program.answer.Goals as goal

pub returns-in_err-text-clause-ends : goal.returns-in_err-text-clause-ends
returns-in_err-text-clause-ends g c =
    let all = rw c.limit_of.ensures at c.in_ok-input.ensures.all in
    fails_so c.args.command.now _ c.in_err-text.field-0.0 _ _ c.from_residual-in_err-text.ensures.1
    (refused_ends c.args.command.now c.in_err-text.field-0.0 _ _ c.in_ok-input.input.items all c.in_err-text.ensures.fails)

pub returns-clause-ends : goal.returns-clause-ends
returns-clause-ends g c =
    let all = rw c.limit_of.ensures at c.in_ok-input.ensures.all in
    let is = subst (IsOutput c.args.command.now c.in_ok-input.input.items) (sym c.deref.ensures.value) c.in_ok-text.ensures.fine in
    reading_ends c.args.command.now c.print.result _ _ c.in_ok-input.input.items c.deref.result.now all is c.print.ensures.ends

pub returns-clause-turns : goal.returns-clause-turns
returns-clause-turns g c =
    let all = rw c.limit_of.ensures at c.in_ok-input.ensures.all in
    has_turned (g.G.Gate.passed c.args.gate.now) c.args.command.now c.print.result _ _ _ c.in_ok-input.input.items all c.in_ok-text.ensures.turns
