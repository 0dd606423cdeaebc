use Rattle.mt_linearize.proofs.WorkedPlay.{worked, worked_run}
use Rattle.mt_linearize.proofs.one_thread.a_worked_play.Goals as goal

pub returns-clause-played : goal.returns-clause-played
returns-clause-played c = worked

pub returns-clause-run : goal.returns-clause-run
returns-clause-run c = worked_run
