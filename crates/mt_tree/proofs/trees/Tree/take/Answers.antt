use Rattle.mt_tree.proofs.Trying.{tried_knows, tried_of, tried_once}
use Rattle.mt_tree.proofs.trees.Tree.take.Goals as goal

pub returns-clause-of : goal.returns-clause-of
returns-clause-of g c = tried_of c.args.self.now c.args.pass.now c.take.new.pass c.take.ensures.pass c.take.ensures.seated c.requires

pub returns-clause-known : goal.returns-clause-known
returns-clause-known g c = tried_knows c.args.pass.now c.take.new.pass c.take.ensures.pass

pub returns-clause-tries : goal.returns-clause-tries
returns-clause-tries g c = tried_once c.args.pass.now c.take.new.pass c.take.ensures.pass
