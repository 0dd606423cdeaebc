use Rattle.mt_life.proofs.Holding.{holds_on}
use Rattle.mt_life.proofs.laws.a_held_row_stays_known.Goals as goal

pub returns : goal.returns
returns c = holds_on
