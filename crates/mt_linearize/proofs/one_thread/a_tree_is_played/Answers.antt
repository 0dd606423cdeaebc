use Rattle.mt_linearize.proofs.Played.{tree_played, copy_played}
use Rattle.mt_linearize.proofs.one_thread.a_tree_is_played.Goals as goal

pub returns-clause-empty : goal.returns-clause-empty
returns-clause-empty c = tree_played

pub returns-clause-copy : goal.returns-clause-copy
returns-clause-copy c = copy_played
