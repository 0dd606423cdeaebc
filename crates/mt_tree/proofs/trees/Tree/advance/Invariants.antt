use Rattle.mt_tree.proofs.trees.Tree.advance.Given as goal

abbrev pub ghosts-go_on : goal.ghosts-go_on
ghosts-go_on a = record { name = a.blank.name; parts = a.blank.parts }
