use Rattle.mt_tree.proofs.Prelude.{steps_made, turn_seat, place_of}
use Rattle.mt_tree.proofs.behind.WriterState.act.Given as goal

abbrev pub ghosts-act : goal.ghosts-act
ghosts-act a = record { table = place_of a.tree.now; turn = turn_seat a.pass.now; steps = steps_made a.pass.now }

abbrev pub ghosts-act-2 : goal.ghosts-act-2
ghosts-act-2 a = record { table = place_of a.tree.now; turn = turn_seat a.pass.now; steps = steps_made a.pass.now }
