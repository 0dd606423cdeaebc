use Rattle.mt_linearize.proofs.Played.{as_many, as_declared, as_large}
use Rattle.mt_linearize.proofs.one_thread.the_trees_are_as_declared.Goals as goal

pub returns-clause-count : goal.returns-clause-count
returns-clause-count c = as_many

pub returns-clause-kind : goal.returns-clause-kind
returns-clause-kind c = as_declared

pub returns-clause-rows : goal.returns-clause-rows
returns-clause-rows c = as_large
