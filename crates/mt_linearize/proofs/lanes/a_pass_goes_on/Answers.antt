use Rattle.mt_linearize.proofs.Leading.{leads_one, leads_on, leads_first, leads_last}
use Rattle.mt_linearize.proofs.lanes.a_pass_goes_on.Goals as goal

pub returns-clause-one : goal.returns-clause-one
returns-clause-one c = leads_one

pub returns-clause-on : goal.returns-clause-on
returns-clause-on c = leads_on

pub returns-clause-first : goal.returns-clause-first
returns-clause-first c = leads_first

pub returns-clause-last : goal.returns-clause-last
returns-clause-last c = leads_last
