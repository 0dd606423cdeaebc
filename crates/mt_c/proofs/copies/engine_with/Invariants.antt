use Rattle.mt_c.proofs.copies.engine_with.Given as goal

abbrev pub ghosts-copy_into : goal.ghosts-copy_into
ghosts-copy_into a = record { name = a.blank.name; parts = a.blank.parts }
