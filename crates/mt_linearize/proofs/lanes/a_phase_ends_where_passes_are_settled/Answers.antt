use Rattle.mt_linearize.proofs.Leading.{phase_settled}
use Rattle.mt_linearize.proofs.lanes.a_phase_ends_where_passes_are_settled.Goals as goal

pub returns : goal.returns
returns c = phase_settled
