use Rattle.trials_engine.proofs.Prelude.{◌≡◌}
use Rattle.trials_engine.proofs.tests.replaced.played.Given as goal

abbrev pub invariant-loop-call : goal.invariant-loop-call
invariant-loop-call g l = record { ended : l.engine.sheet.ended ≡ l.call-index }
