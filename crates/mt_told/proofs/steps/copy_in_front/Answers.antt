use Rattle.mt_told.proofs.Outcomes.{copy_told}
use Rattle.mt_told.proofs.steps.copy_in_front.Goals as goal

pub returns-clause-some : goal.returns-clause-some
returns-clause-some c = copy_told c.in_ok-count.count c.args.text.now c.in_ok-line.line.now c.in_ok-count.rest.now c.in_ok-line.ensures.some c.in_ok-count.ensures.some
