use Rattle.trials_engine.proofs.Prelude.{◌≡◌, sheet_in, OnlyReads}
use Rattle.trials_engine.proofs.tests.replaced.words_of.Given as goal

abbrev pub invariant-loop-n : goal.invariant-loop-n
invariant-loop-n l = record { reads : OnlyReads (sheet_in l.initial.rows) (sheet_in l.rows); count : l.count ≡ (sheet_in l.rows).tree.rows }
