use Rattle.mt_tree.proofs.Keeping.{lacks_only_held}
use Rattle.mt_tree.proofs.laws.only_held_nodes_are_lacking.Goals as goal

pub returns : goal.returns
returns c = lacks_only_held
