use Rattle.trials_tree.proofs.readers.held.hold_by_two.Given as goal

abbrev pub ghosts-close_the_older_cursor : goal.ghosts-close_the_older_cursor
ghosts-close_the_older_cursor g a = record { name = a.blank.name; parts = a.blank.parts }
