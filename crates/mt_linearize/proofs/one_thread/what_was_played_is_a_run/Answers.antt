use Rattle.mt_linearize.proofs.Played.{played_is_run}
use Rattle.mt_linearize.proofs.one_thread.what_was_played_is_a_run.Goals as goal

pub returns : goal.returns
returns c = played_is_run
