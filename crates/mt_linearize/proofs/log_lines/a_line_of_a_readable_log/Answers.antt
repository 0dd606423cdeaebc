use Rattle.mt_linearize.proofs.Stretches.{line_named, line_placed, line_lane}
use Rattle.mt_linearize.proofs.log_lines.a_line_of_a_readable_log.Goals as goal

pub returns-clause-named : goal.returns-clause-named
returns-clause-named c = line_named

pub returns-clause-placed : goal.returns-clause-placed
returns-clause-placed c = line_placed

pub returns-clause-lane : goal.returns-clause-lane
returns-clause-lane c = line_lane
