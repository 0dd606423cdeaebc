use Rattle.trials_engine.proofs.Prelude.{◌≡◌}
use Rattle.trials_engine.proofs.tests.noted.expect_steps.Given as goal

abbrev pub invariant-loop-n : goal.invariant-loop-n
invariant-loop-n g l = record { ended : l.engine.sheet.ended ≡ l.n }
