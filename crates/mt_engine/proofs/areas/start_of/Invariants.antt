use Rattle.mt_engine.proofs.areas.start_of.Given as goal

abbrev pub ghosts-start_by : goal.ghosts-start_by
ghosts-start_by g a = record { name = a.blank.name; parts = a.blank.parts }
