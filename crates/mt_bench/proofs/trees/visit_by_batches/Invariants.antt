use Rattle.mt_bench.proofs.Prelude.{OnlyReads, WalksFrom}
use Rattle.mt_bench.proofs.trees.visit_by_batches.Given as goal

-- the engine was only read, and the walk is one of its tree
abbrev pub invariant-loop : goal.invariant-loop
invariant-loop l = OnlyReads l.initial.engine.sheet l.engine.sheet × WalksFrom l.engine.sheet.tree l.walk
