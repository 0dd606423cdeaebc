use Rattle.mt_tree.proofs.Trying.{all_gone, first_gone, known_gone}
use Rattle.mt_tree.proofs.trees.Tree.take_first.Goals as goal

pub returns-clause-passes : goal.returns-clause-passes
returns-clause-passes g c = first_gone _ _ _ _ c.requires c.take.ensures.pass

pub returns-clause-all : goal.returns-clause-all
returns-clause-all g c = all_gone _ _ _ _ c.requires c.take.ensures.pass c.take.ensures.seated

pub returns-clause-known : goal.returns-clause-known
returns-clause-known g c = known_gone _ _ _ _ c.requires c.take.ensures.pass
