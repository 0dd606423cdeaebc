use Rattle.mt_linearize.proofs.Played.{phase_played}
use Rattle.mt_linearize.proofs.one_thread.a_phase_is_played.Goals as goal

pub returns : goal.returns
returns c = phase_played
