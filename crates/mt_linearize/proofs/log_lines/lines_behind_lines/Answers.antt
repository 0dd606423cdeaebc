use Rattle.mt_linearize.proofs.Stretches.{asked_behind, trees_behind, lane_append, phase_append, stepped_append}
use Rattle.mt_linearize.proofs.log_lines.lines_behind_lines.Goals as goal

pub returns-clause-asked : goal.returns-clause-asked
returns-clause-asked c = asked_behind

pub returns-clause-trees : goal.returns-clause-trees
returns-clause-trees c = trees_behind

pub returns-clause-lane : goal.returns-clause-lane
returns-clause-lane c = lane_append

pub returns-clause-phase : goal.returns-clause-phase
returns-clause-phase c = phase_append

pub returns-clause-stepped : goal.returns-clause-stepped
returns-clause-stepped c = stepped_append
