use Rattle.mt_tree.proofs.copies.copy_out.Given as goal

abbrev pub ghosts-copy_into : goal.ghosts-copy_into
ghosts-copy_into g a = record { name = a.blank.name; parts = a.blank.parts }
