use Rattle.mt_desks.proofs.Asking.{counts_first, none_counted}
use Rattle.mt_desks.proofs.laws.copies_and_checks_come_first.Goals as goal

pub returns-clause-asked : goal.returns-clause-asked
returns-clause-asked c = counts_first

pub returns-clause-none : goal.returns-clause-none
returns-clause-none c = none_counted
