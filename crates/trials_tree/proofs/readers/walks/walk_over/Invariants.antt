use Rattle.trials_tree.proofs.readers.walks.walk_over.Given as goal

abbrev pub ghosts-walk : goal.ghosts-walk
ghosts-walk g a = record { name = a.blank.name; parts = a.blank.parts }
