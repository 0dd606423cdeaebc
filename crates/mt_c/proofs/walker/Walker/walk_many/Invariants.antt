use Rattle.mt_c.proofs.walker.Walker.walk_many.Given as goal

abbrev pub ghosts-step_ranges : goal.ghosts-step_ranges
ghosts-step_ranges a = record { name = a.blank.name; parts = a.blank.parts }
