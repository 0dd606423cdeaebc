use Rattle.mt_linearize.proofs.Totals.{stay}
use Rattle.mt_linearize.proofs.lanes.settled_passes_stay.Goals as goal

pub returns : goal.returns
returns c = stay
