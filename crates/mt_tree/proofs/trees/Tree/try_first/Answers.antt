use Rattle.mt_tree.proofs.Prelude.{◌∙◌, IfOk-weaker}
use Rattle.mt_tree.proofs.Trying.{all_gone, first_gone, known_gone}
use Rattle.mt_tree.proofs.trees.Tree.try_first.Goals as goal

pub returns-clause-passes : goal.returns-clause-passes
returns-clause-passes c = first_gone _ _ _ _ c.requires c.try_take.ensures.pass

pub returns-clause-all : goal.returns-clause-all
returns-clause-all c = all_gone _ _ _ _ c.requires c.try_take.ensures.pass c.try_take.ensures.seated

pub returns-clause-known : goal.returns-clause-known
returns-clause-known c = known_gone _ _ _ _ c.requires c.try_take.ensures.pass

pub returns-clause-table : goal.returns-clause-table
returns-clause-table c = IfOk-weaker c.try_take.result _ _ (λ taken value. value ∙ c.args.self.now.serves) c.try_take.ensures.value
