use Rattle.trials_lanes.proofs.Prelude.{length, vec_len, vec_capacity, LaneDesk, IsLaid, Lane, Pass, LaneTree}
use Rattle.trials_lanes.proofs.Closed.{at_only}
use Rattle.trials_lanes.proofs.locked.answers_to.Goals as goal

pub run_phase-requires-clause-laid : goal.run_phase-requires-clause-laid
run_phase-requires-clause-laid g c κs within =
    at_only (λ _ (l : Lane (LaneDesk g.row.R.Denot Pass LaneTree)). IsLaid l.steps (length l.desk.trees.now) l.desk.lines.all l.desk.lines.left (vec_len l.desk.passes) (vec_len l.desk.room) (vec_capacity l.desk.room)) c.in_ok-laid.field-0 c.in_ok-laid.ensures.laid
