use Rattle.mt_log.proofs.Prelude.{arith}
use Rattle.mt_log.proofs.Pieces.{pieces_read}
use Rattle.mt_log.proofs.Soundness.{sound_nothing}
use Rattle.mt_log.proofs.reading.read_lines.Goals as goal

pub returns-clause-lines : goal.returns-clause-lines
returns-clause-lines c = grind (arith, pieces_read, sound_nothing)
