use Rattle.mt_numbers.proofs.readers.ReadingThread.work.Given as goal

abbrev pub ghosts-count_faults : goal.ghosts-count_faults
ghosts-count_faults a = record { name = a.blank.name; parts = a.blank.parts }
