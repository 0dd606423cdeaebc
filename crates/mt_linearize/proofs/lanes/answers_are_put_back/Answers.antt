use Rattle.mt_linearize.proofs.Rooming.{back_done, back_in_lanes}
use Rattle.mt_linearize.proofs.lanes.answers_are_put_back.Goals as goal

pub returns-clause-done : goal.returns-clause-done
returns-clause-done c = back_done

pub returns-clause-lanes : goal.returns-clause-lanes
returns-clause-lanes c = back_in_lanes
