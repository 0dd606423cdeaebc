use Rattle.mt_linearize.proofs.Played.{call_played}
use Rattle.mt_linearize.proofs.one_thread.a_call_is_played.Goals as goal

pub returns : goal.returns
returns c = call_played
