use Rattle.mt_tree.proofs.trees.Tree.halt.Given as goal

abbrev pub ghosts-stand : goal.ghosts-stand
ghosts-stand a = record { name = a.blank.name; parts = a.blank.parts }
