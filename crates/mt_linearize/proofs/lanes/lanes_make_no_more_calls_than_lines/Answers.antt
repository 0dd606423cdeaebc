use Rattle.mt_linearize.proofs.FewCalls.{lane_calls, line_calls, lines_of_lanes, numbers_long_on, sum_upto}
use Rattle.mt_linearize.proofs.lanes.lanes_make_no_more_calls_than_lines.Goals as goal

pub returns-clause-line : goal.returns-clause-line
returns-clause-line c = line_calls

pub returns-clause-on : goal.returns-clause-on
returns-clause-on c = numbers_long_on

pub returns-clause-lane : goal.returns-clause-lane
returns-clause-lane c = lane_calls

pub returns-clause-lanes : goal.returns-clause-lanes
returns-clause-lanes c = lines_of_lanes

pub returns-clause-sums : goal.returns-clause-sums
returns-clause-sums c = sum_upto
