use Rattle.mt_desks.proofs.Naming.{phase_named, phase_placed}
use Rattle.mt_desks.proofs.phase_lines.lines_of_a_readable_log.Goals as goal

pub returns-clause-named : goal.returns-clause-named
returns-clause-named c = phase_named

pub returns-clause-placed : goal.returns-clause-placed
returns-clause-placed c = phase_placed
