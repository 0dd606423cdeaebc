use Rattle.mt_linearize.proofs.Played.{count_played}
use Rattle.mt_linearize.proofs.one_thread.a_count_is_played.Goals as goal

pub returns : goal.returns
returns c = count_played
