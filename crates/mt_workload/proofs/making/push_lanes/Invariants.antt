use Rattle.mt_workload.proofs.Prelude.{◌≡◌, ◌-◌, ◌++◌, lanes_from, steps_of_lane}
use Rattle.mt_workload.proofs.making.push_lanes.Given as goal

-- the lanes so far, and those that are drawn from here on, are all
abbrev pub invariant-loop-lane : goal.invariant-loop-lane
invariant-loop-lane l = l.lines ++ (lanes_from (steps_of_lane l.steps l.lanes) l.lane (l.lanes - l.lane) l.draws).0 ≡ l.fn.lines ++ (lanes_from (steps_of_lane l.steps l.lanes) 0 l.lanes l.fn.draws).0
