use Rattle.mt_desks.proofs.Calls.{few_calls, few_lines}
use Rattle.mt_desks.proofs.laws.lines_bound_the_calls.Goals as goal

pub returns-clause-calls : goal.returns-clause-calls
returns-clause-calls c = few_calls

pub returns-clause-lines : goal.returns-clause-lines
returns-clause-lines c = few_lines
