use Rattle.mt_workload.proofs.Prelude.{◌≡◌, take, told}
use Rattle.mt_workload.proofs.summaries.told.Given as goal

abbrev pub invariant-loop-entry : goal.invariant-loop-entry
invariant-loop-entry l = l.summary ≡ told l.steps (take l.entry-index l.entries)
