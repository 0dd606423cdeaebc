use Rattle.mt_tree.proofs.Prelude.{steps_made, turn_seat, place_of}
use Rattle.mt_tree.proofs.behind.WriterState.tell_met.Given as goal

abbrev pub ghosts-tell_at_work : goal.ghosts-tell_at_work
ghosts-tell_at_work g a = record { table = place_of a.tree.now; turn = turn_seat a.pass.now; steps = steps_made a.pass.now }

abbrev pub ghosts-tell_at_work-2 : goal.ghosts-tell_at_work-2
ghosts-tell_at_work-2 g a = record { table = place_of a.tree.now; turn = turn_seat a.pass.now; steps = steps_made a.pass.now }
