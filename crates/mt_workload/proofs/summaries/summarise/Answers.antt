use Rattle.mt_workload.proofs.Prelude.{refl}
use Rattle.mt_workload.proofs.summaries.summarise.Goals as goal

pub returns : goal.returns
returns c = rw (c.told.ensures, c.ranges_of.ensures, c.as_slice.ensures, c.as_slice-2.ensures) refl
