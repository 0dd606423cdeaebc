use Rattle.mt_c.proofs.walker.Walker.entry.Given as goal

abbrev pub ghosts-load_entry : goal.ghosts-load_entry
ghosts-load_entry a = record { name = a.blank.name; parts = a.blank.parts }
