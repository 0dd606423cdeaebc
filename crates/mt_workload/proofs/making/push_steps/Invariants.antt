use Rattle.mt_workload.proofs.Prelude.{◌≡◌, ◌-◌, ◌++◌, steps}
use Rattle.mt_workload.proofs.making.push_steps.Given as goal

-- the steps so far, and those that are drawn from here on, are all
abbrev pub invariant-loop-step : goal.invariant-loop-step
invariant-loop-step l =
    (l.lines ++ (steps (l.count - l._step) l.draws).0 ≡ l.fn.lines ++ (steps l.count l.fn.draws).0)
    × ((steps (l.count - l._step) l.draws).1 ≡ (steps l.count l.fn.draws).1)
