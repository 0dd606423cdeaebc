use Rattle.mt_tree.proofs.Prelude.{steps_made, turn_seat, place_of}
use Rattle.mt_tree.proofs.behind.WriterState.inspect.Given as goal

abbrev pub ghosts-inspect_at_work : goal.ghosts-inspect_at_work
ghosts-inspect_at_work g a = record { table = place_of a.tree.now; turn = turn_seat a.pass.now; steps = steps_made a.pass.now }

abbrev pub ghosts-inspect_at_work-2 : goal.ghosts-inspect_at_work-2
ghosts-inspect_at_work-2 g a = record { table = place_of a.tree.now; turn = turn_seat a.pass.now; steps = steps_made a.pass.now }
