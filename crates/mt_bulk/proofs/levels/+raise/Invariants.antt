use Rattle.mt_bulk.proofs.Prelude.{length}
use Rattle.mt_bulk.proofs.levels.+raise.Given as goal

abbrev pub decreases-raise : goal.decreases-raise
decreases-raise l = length l.levels.now
