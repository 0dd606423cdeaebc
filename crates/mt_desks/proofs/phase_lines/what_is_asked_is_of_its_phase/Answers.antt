use Rattle.mt_desks.proofs.Asking.{counts_placed, steps_of_phase}
use Rattle.mt_desks.proofs.Laning.{all_placed}
use Rattle.mt_desks.proofs.phase_lines.what_is_asked_is_of_its_phase.Goals as goal

pub returns-clause-steps : goal.returns-clause-steps
returns-clause-steps c = steps_of_phase

pub returns-clause-counts : goal.returns-clause-counts
returns-clause-counts c = counts_placed

pub returns-clause-placed : goal.returns-clause-placed
returns-clause-placed c = all_placed
