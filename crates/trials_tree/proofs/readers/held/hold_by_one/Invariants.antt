use Rattle.trials_tree.proofs.readers.held.hold_by_one.Given as goal

abbrev pub ghosts-hold : goal.ghosts-hold
ghosts-hold g a = record { name = a.blank.name; parts = a.blank.parts }
