use Rattle.mt_tree.proofs.cursors.Cursor.halt.Given as goal

abbrev pub ghosts-pause : goal.ghosts-pause
ghosts-pause a = record { name = a.blank.name; parts = a.blank.parts }
