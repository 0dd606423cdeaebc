use Rattle.mt_linearize.proofs.Totals.{lanes_calls, seen_begins, seen_within}
use Rattle.mt_linearize.proofs.lanes.calls_are_those_of_the_lanes.Goals as goal

pub returns-clause-calls : goal.returns-clause-calls
returns-clause-calls c = lanes_calls

pub returns-clause-seen : goal.returns-clause-seen
returns-clause-seen c = seen_within

pub returns-clause-begins : goal.returns-clause-begins
returns-clause-begins c = seen_begins
