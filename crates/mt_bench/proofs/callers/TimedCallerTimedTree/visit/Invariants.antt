use Rattle.mt_bench.proofs.callers.TimedCallerTimedTree.visit.Given as goal

abbrev pub ghosts-visit_counted : goal.ghosts-visit_counted
ghosts-visit_counted g a = record { name = a.blank.name; parts = a.blank.parts }
