use Rattle.mt_told.proofs.Outcomes.{call_told}
use Rattle.mt_told.proofs.steps.call_in_front.Goals as goal

pub returns-clause-some : goal.returns-clause-some
returns-clause-some c = call_told c.args.call c.in_ok-number.number c.in_ok-reply.reply c.args.text.now c.in_ok-number.line.now c.in_ok-reply.rest.now c.in_ok-number.ensures.some c.in_ok-reply.ensures.some
