use Rattle.mt_judge.proofs.Prelude.{◌∙◌}
use Rattle.mt_judge.proofs.Firsts.{first_told}
use Rattle.mt_judge.proofs.orders.order_fault.Goals as goal

pub returns : goal.returns
returns c = first_told c.args.told.now c.in_ok-place.place _ c.at.result c.in_ok-place.ensures.some c.in_ok-place.ensures.fits c.at.ensures.line (c.at.ensures.cause ∙ c.cause_of.ensures)
