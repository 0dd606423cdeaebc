use Rattle.mt_engine.proofs.areas.area_of.Given as goal

abbrev pub ghosts-area_by : goal.ghosts-area_by
ghosts-area_by g a = record { name = a.blank.name; parts = a.blank.parts }
