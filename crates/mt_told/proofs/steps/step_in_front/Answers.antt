use Rattle.mt_told.proofs.Stepped.{no_step, step_told}
use Rattle.mt_told.proofs.steps.step_in_front.Goals as goal

pub returns-in_err-what-clause-none : goal.returns-in_err-what-clause-none
returns-in_err-what-clause-none c = rw c.from_residual-in_err-what.ensures (no_step c.args.place.now c.args.deed.now c.args.text.now c.in_ok-line.line.now c.in_ok-line.ensures.some c.in_err-what.ensures.none)

pub returns-clause-some : goal.returns-clause-some
returns-clause-some c = rw c.tells.ensures (step_told c.args.place.now c.args.deed.now c.args.text.now c.in_ok-line.line.now c.in_ok-what.rest.now c.in_ok-what.what c.in_ok-line.ensures.some c.in_ok-what.ensures.some)
