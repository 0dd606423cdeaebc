use Rattle.mt_bench.proofs.callers.TimedCallerTimedTree.load_many.Given as goal

abbrev pub ghosts-load_many_counted : goal.ghosts-load_many_counted
ghosts-load_many_counted g a = record { name = a.blank.name; parts = a.blank.parts }
