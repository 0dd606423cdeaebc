use Rattle.mt_linearize.proofs.Leading.{learns_none, saw_learns, learned_learns, stands_otherwise, learns_on}
use Rattle.mt_linearize.proofs.lanes.what_a_pass_learns.Goals as goal

pub returns-clause-nothing : goal.returns-clause-nothing
returns-clause-nothing c = learns_none

pub returns-clause-saw : goal.returns-clause-saw
returns-clause-saw c = saw_learns

pub returns-clause-learned : goal.returns-clause-learned
returns-clause-learned c = learned_learns

pub returns-clause-closed : goal.returns-clause-closed
returns-clause-closed c = stands_otherwise

pub returns-clause-on : goal.returns-clause-on
returns-clause-on c = learns_on
