use Rattle.mt_linearize.proofs.LanesPhase.{lanes_phase}
use Rattle.mt_linearize.proofs.lanes.lanes_make_a_phase.Goals as goal

pub returns : goal.returns
returns c = lanes_phase
