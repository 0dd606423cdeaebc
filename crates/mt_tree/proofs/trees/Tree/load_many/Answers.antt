use Rattle.mt_tree.proofs.trees.Tree.load_many.Goals as goal

pub returns-clause-loaded : goal.returns-clause-loaded
returns-clause-loaded g c = let told = c.load_many.ensures in record { count = told.count; entries = told.entries; section = told.section }
