use Rattle.mt_c.proofs.walker.Walker.load_many.Given as goal

abbrev pub ghosts-load_entries : goal.ghosts-load_entries
ghosts-load_entries a = record { name = a.blank.name; parts = a.blank.parts }
