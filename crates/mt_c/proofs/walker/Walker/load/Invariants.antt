use Rattle.mt_c.proofs.walker.Walker.load.Given as goal

abbrev pub ghosts-load_range : goal.ghosts-load_range
ghosts-load_range a = record { name = a.blank.name; parts = a.blank.parts }
