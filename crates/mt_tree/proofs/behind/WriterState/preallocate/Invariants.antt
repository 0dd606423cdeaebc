use Rattle.mt_tree.proofs.Prelude.{steps_made, turn_seat, place_of}
use Rattle.mt_tree.proofs.behind.WriterState.preallocate.Given as goal

abbrev pub ghosts-preallocate : goal.ghosts-preallocate
ghosts-preallocate a = record { table = place_of a.tree.now; turn = turn_seat a.pass.now; steps = steps_made a.pass.now }

abbrev pub ghosts-preallocate-2 : goal.ghosts-preallocate-2
ghosts-preallocate-2 a = record { table = place_of a.tree.now; turn = turn_seat a.pass.now; steps = steps_made a.pass.now }
