use Rattle.mt_tree.proofs.cursors.Cursor.advance.Given as goal

abbrev pub ghosts-step : goal.ghosts-step
ghosts-step a = record { name = a.blank.name; parts = a.blank.parts }
