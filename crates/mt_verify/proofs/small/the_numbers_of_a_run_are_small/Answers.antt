use Rattle.mt_verify.proofs.Prelude.{log_follows, are_readable}
use Rattle.mt_verify.proofs.CopiedTrees.{copies_are_earlier}
use Rattle.mt_verify.proofs.SmallRuns.{run_small}
use Rattle.mt_verify.proofs.small.the_numbers_of_a_run_are_small.Goals as goal

pub returns : goal.returns
returns c = λ log rows t steps trees is lines run. run_small log rows t steps trees is lines run (copies_are_earlier log.lines (are_readable log.lines (log_follows log is).1))
