use Rattle.mt_bench.proofs.Prelude.{sym, still_of}
use Rattle.mt_bench.proofs.callers.TimedCaller.check.Goals as goal

pub check-look-requires : goal.check-look-requires
check-look-requires g c = still_of _ _ _ (sym c.deref.ensures) c.args.self.now.of

pub invariant_of-self : goal.invariant_of-self
invariant_of-self g c = record { of = still_of _ _ _ c.deref.ensures c.check-look.ensures.of }
