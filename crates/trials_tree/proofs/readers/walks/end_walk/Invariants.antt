use Rattle.trials_tree.proofs.readers.walks.end_walk.Given as goal

abbrev pub ghosts-walk_to_the_end : goal.ghosts-walk_to_the_end
ghosts-walk_to_the_end g a = record { name = a.blank.name; parts = a.blank.parts }
