use Rattle.mt_bench.proofs.Prelude.{sym, still_of}
use Rattle.mt_bench.proofs.callers.TimedCaller.new.Goals as goal

pub invariant_of-result : goal.invariant_of-result
invariant_of-result g c = record { of = still_of _ _ _ (sym c.in-Ok.ensures) c.requires }
