use Rattle.mt_linearize.proofs.Played.{read_played}
use Rattle.mt_linearize.proofs.one_thread.a_read_is_played.Goals as goal

pub returns : goal.returns
returns c = read_played
