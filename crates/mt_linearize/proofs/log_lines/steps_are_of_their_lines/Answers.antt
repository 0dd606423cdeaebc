use Rattle.mt_linearize.proofs.LineSteps.{steps_placed, steps_named}
use Rattle.mt_linearize.proofs.log_lines.steps_are_of_their_lines.Goals as goal

pub returns-clause-placed : goal.returns-clause-placed
returns-clause-placed c = steps_placed

pub returns-clause-named : goal.returns-clause-named
returns-clause-named c = steps_named
