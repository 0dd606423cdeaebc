use Rattle.mt_tree.proofs.Prelude.{Rfind}
use Rattle.mt_tree.proofs.Counting.{sought}
use Rattle.mt_tree.proofs.trees.Tree.rfind.Goals as goal

pub returns-clause-sought : goal.returns-clause-sought
returns-clause-sought g c =
    let told = c.near.ensures in sought c.args.self.now c.args.pass.now _ (Rfind c.args.index c.args.min) _ _ _ told.read told.section told.moved told.given_up told.left told.counted told.stepped.turn told.steps
