use Rattle.mt_linearize.proofs.Running.{ran_is_run}
use Rattle.mt_linearize.proofs.laws.what_ran_is_a_run.Goals as goal

pub returns : goal.returns
returns c = ran_is_run
