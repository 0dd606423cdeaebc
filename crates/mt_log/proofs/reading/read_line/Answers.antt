use Rattle.mt_log.proofs.Soundness.{sound_more}
use Rattle.mt_log.proofs.reading.read_line.Goals as goal

pub returns-in_ok-add-in-Ok-clause-sound : goal.returns-in_ok-add-in-Ok-clause-sound
returns-in_ok-add-in-Ok-clause-sound c = rw c.in_ok-add-in-Ok.ensures (sound_more _ _ c.requires.sound c.in-Ok.ensures.follows)
