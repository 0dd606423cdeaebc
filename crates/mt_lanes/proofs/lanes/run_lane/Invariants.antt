use Rattle.mt_lanes.proofs.Prelude.{◌≡◌, ◌<◌, ◌*◌, ℕ, Chain}
use Rattle.mt_lanes.proofs.lanes.run_lane.Given as goal

abbrev pub invariant-loop-step : goal.invariant-loop-step
invariant-loop-step g l =
    Chain g.D.Desk.did l.step l.initial.lane.desk l.lane.desk
    × (l.lane.lane ≡ l.initial.lane.lane)
    × (l.lane.steps ≡ l.initial.lane.steps)
    × (g.D.Desk.count l.lane.desk ≡ g.D.Desk.count l.initial.lane.desk)
    × (l.step < l.step-end → g.D.Desk.awaits l.lane.desk l.step)
    × ((number : ℕ) → number < 2 * l.step → g.G.Gate.passed l.fn.gate l.initial.lane.lane number)
