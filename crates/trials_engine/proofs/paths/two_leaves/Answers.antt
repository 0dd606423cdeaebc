use Rattle.trials_engine.proofs.Prelude.{sheet_in, tree_as, lawful_tree}
use Rattle.trials_engine.proofs.paths.two_leaves.Goals as goal

pub returns : goal.returns
returns g c = let lawful = c.in_ok-rows.ensures.lawful in record { width = lawful.width; words = lawful_tree (tree_as c.args.kind (sheet_in c.in_ok-rows.rows).tree) lawful.words }
