use Rattle.mt_linearize.proofs.Played.{nothing_played}
use Rattle.mt_linearize.proofs.one_thread.nothing_is_played_yet.Goals as goal

pub returns : goal.returns
returns c = nothing_played
