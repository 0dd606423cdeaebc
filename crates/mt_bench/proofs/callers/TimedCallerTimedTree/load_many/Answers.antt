use Rattle.mt_bench.proofs.Prelude.{sym, still_of}
use Rattle.mt_bench.proofs.callers.TimedCallerTimedTree.load_many.Goals as goal

pub load_many_counted-requires-clause-of : goal.load_many_counted-requires-clause-of
load_many_counted-requires-clause-of g c = still_of _ _ _ (sym c.deref.ensures) c.args.self.now.of

pub invariant_of-self : goal.invariant_of-self
invariant_of-self g c = record { of = still_of _ _ _ c.deref.ensures c.load_many_counted.ensures }
