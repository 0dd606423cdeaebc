use Rattle.trials_engine.proofs.room.expect_places.Given as goal

abbrev pub ghosts-placed : goal.ghosts-placed
ghosts-placed g a = record { name = a.blank.name; parts = a.blank.parts }
