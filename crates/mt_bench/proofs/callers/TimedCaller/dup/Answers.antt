use Rattle.mt_bench.proofs.Prelude.{sym, still_of}
use Rattle.mt_bench.proofs.callers.TimedCaller.dup.Goals as goal

pub dup-copied-requires : goal.dup-copied-requires
dup-copied-requires g c = still_of _ _ _ (sym c.deref-2.ensures) c.args.self.now.of

pub invariant_of-self : goal.invariant_of-self
invariant_of-self g c = record { of = still_of _ _ _ c.deref-2.ensures c.dup-copied.ensures.of }
