use Rattle.mt_linearize.proofs.Stretches.{asked_more, trees_more, lane_more, phase_more, stepped_more}
use Rattle.mt_linearize.proofs.log_lines.one_more_line.Goals as goal

pub returns-clause-asked : goal.returns-clause-asked
returns-clause-asked c = asked_more

pub returns-clause-trees : goal.returns-clause-trees
returns-clause-trees c = trees_more

pub returns-clause-lane : goal.returns-clause-lane
returns-clause-lane c = lane_more

pub returns-clause-phase : goal.returns-clause-phase
returns-clause-phase c = phase_more

pub returns-clause-stepped : goal.returns-clause-stepped
returns-clause-stepped c = stepped_more
