use Rattle.trials_engine.proofs.Prelude.{◌≡◌, ◌+◌}
use Rattle.trials_engine.proofs.tests.drawn.fill.Given as goal

abbrev pub invariant-loop-n : goal.invariant-loop-n
invariant-loop-n g l = record { ended : l.engine.sheet.ended ≡ l.initial.engine.sheet.ended + l.n }
