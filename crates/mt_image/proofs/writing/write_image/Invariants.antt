use Rattle.mt_image.proofs.writing.write_image.Given as goal

abbrev pub ghosts-copy_in_order : goal.ghosts-copy_in_order
ghosts-copy_in_order g a = record { name = a.blank.name; parts = a.blank.parts }
