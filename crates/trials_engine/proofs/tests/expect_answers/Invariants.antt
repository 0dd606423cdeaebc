use Rattle.trials_engine.proofs.Prelude.{◌≡◌}
use Rattle.trials_engine.proofs.tests.expect_answers.Given as goal

abbrev pub invariant-loop-query : goal.invariant-loop-query
invariant-loop-query g l = record { ended : l.engine.sheet.ended ≡ l.initial.engine.sheet.ended }
