use Rattle.mt_tree.proofs.Prelude.{◌∙◌, IfOk-weaker}
use Rattle.mt_tree.proofs.Trying.{tried_knows, tried_of, tried_once}
use Rattle.mt_tree.proofs.trees.Tree.try_take.Goals as goal

pub returns-clause-of : goal.returns-clause-of
returns-clause-of c = tried_of c.args.self.now c.args.pass.now c.try_take.new.pass c.try_take.ensures.pass c.try_take.ensures.seated c.requires

pub returns-clause-known : goal.returns-clause-known
returns-clause-known c = tried_knows c.args.pass.now c.try_take.new.pass c.try_take.ensures.pass

pub returns-clause-tries : goal.returns-clause-tries
returns-clause-tries c = tried_once c.args.pass.now c.try_take.new.pass c.try_take.ensures.pass

pub returns-clause-table : goal.returns-clause-table
returns-clause-table c = IfOk-weaker c.try_take.result _ _ (λ taken value. value ∙ c.args.self.now.serves) c.try_take.ensures.value
