use Rattle.mt_linearize.proofs.Starting.{empty_ran, copy_ran}
use Rattle.mt_linearize.proofs.laws.a_tree_is_declared.Goals as goal

pub returns-clause-empty : goal.returns-clause-empty
returns-clause-empty c = empty_ran

pub returns-clause-copy : goal.returns-clause-copy
returns-clause-copy c = copy_ran
