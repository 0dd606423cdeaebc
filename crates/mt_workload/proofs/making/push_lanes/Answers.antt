use Rattle.mt_workload.proofs.Prelude.{sym, ◌∙◌, steps_of_lane}
use Rattle.mt_workload.proofs.Dealing.{lane_more, lanes_none}
use Rattle.mt_workload.proofs.making.push_lanes.Goals as goal

pub loop-lane-preserved : goal.loop-lane-preserved
loop-lane-preserved c =
    rw (c.in_ok-push_lane.ensures.lines, c.in_ok-push_lane.ensures.drawn, c.steps_of_lane.ensures)
    (lane_more c.loop-lane.lines (steps_of_lane c.args.steps c.args.lanes) c.args.lanes c.loop-lane.lane c.loop-lane.draws c.loop-lane-test.true ∙ c.loop-lane.invariant)

pub returns : goal.returns
returns c = sym (lanes_none c.loop-lane.lines (steps_of_lane c.args.steps c.args.lanes) c.args.lanes c.loop-lane.lane c.loop-lane.draws c.loop-lane-test.false) ∙ c.loop-lane.invariant
