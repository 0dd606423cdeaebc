use Rattle.trials_engine.proofs.Prelude.{◌≡◌, WalksFrom}
use Rattle.trials_engine.proofs.tests.expect_walk.Given as goal

abbrev pub invariant-loop-range : goal.invariant-loop-range
invariant-loop-range g l = record { walks : WalksFrom l.engine.sheet.tree l.walk; ended : l.engine.sheet.ended ≡ l.initial.engine.sheet.ended }
