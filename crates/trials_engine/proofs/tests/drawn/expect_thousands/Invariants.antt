use Rattle.trials_engine.proofs.Prelude.{◌≡◌, ◌+◌, ◌*◌}
use Rattle.trials_engine.proofs.tests.drawn.expect_thousands.Given as goal

abbrev pub invariant-loop : goal.invariant-loop
invariant-loop g l = record { ended : l.engine.sheet.ended ≡ l.initial.engine.sheet.ended + 1000 * l.counter }
