use Rattle.mt_desks.proofs.Laning.{few_lanes, lanes_asked, lanes_before, lanes_behind, some_lane, steps_lanes}
use Rattle.mt_desks.proofs.phase_lines.lanes_are_counted.Goals as goal

pub returns-clause-asked : goal.returns-clause-asked
returns-clause-asked c = lanes_asked 0 0

pub returns-clause-onward : goal.returns-clause-onward
returns-clause-onward c = lanes_asked

pub returns-clause-steps : goal.returns-clause-steps
returns-clause-steps c = steps_lanes

pub returns-clause-some : goal.returns-clause-some
returns-clause-some c = some_lane

pub returns-clause-few : goal.returns-clause-few
returns-clause-few c = few_lanes

pub returns-clause-behind : goal.returns-clause-behind
returns-clause-behind c = lanes_behind

pub returns-clause-before : goal.returns-clause-before
returns-clause-before c = lanes_before
