use Rattle.mt_lanes.proofs.Prelude.{RanSteps}
use Rattle.mt_lanes.proofs.Lined.{each_behind}
use Rattle.mt_lanes.proofs.lanes.+lanes.Goals as goal

pub run_lanes-returns-else-runs_here : goal.run_lanes-returns-else-runs_here
run_lanes-returns-else-runs_here g t c = each_behind (RanSteps {D = g.row.D.Denot} g.D.Desk.did (g.G.Gate.passed c.args.gate.now)) c.in-Some.first.now c.run_beside.new.first c.in-Some.others.now c.run_beside.new.others c.args.lanes.now c.in-Some.ensures.cases.0 c.run_beside.ensures.first c.run_beside.ensures.others
