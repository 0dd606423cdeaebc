use Rattle.mt_lanes.proofs.Prelude.{◌+◌, ◌*◌, length}
use Rattle.mt_lanes.proofs.lanes.+lanes.Given as goal

abbrev pub decreases-run_beside-rest : goal.decreases-run_beside-rest
decreases-run_beside-rest g l = 4 * length l.others.now + 1

abbrev pub decreases-run_beside : goal.decreases-run_beside
decreases-run_beside g l = 4 * length l.others.now + 2

abbrev pub decreases-run_lanes : goal.decreases-run_lanes
decreases-run_lanes g l = 4 * length l.lanes.now
