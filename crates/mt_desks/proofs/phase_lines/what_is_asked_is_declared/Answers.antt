use Rattle.mt_desks.proofs.Naming.{all_named, own_lines}
use Rattle.mt_desks.proofs.phase_lines.what_is_asked_is_declared.Goals as goal

pub returns-clause-named : goal.returns-clause-named
returns-clause-named c = all_named

pub returns-clause-lines : goal.returns-clause-lines
returns-clause-lines c = own_lines
