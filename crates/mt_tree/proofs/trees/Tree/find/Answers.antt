use Rattle.mt_tree.proofs.Prelude.{rules}
use Rattle.mt_tree.proofs.trees.Tree.find.Goals as goal

pub returns-clause-read : goal.returns-clause-read
returns-clause-read g c = search rules
