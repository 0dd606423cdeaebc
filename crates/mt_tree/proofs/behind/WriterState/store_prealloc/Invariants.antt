use Rattle.mt_tree.proofs.Prelude.{steps_made, turn_seat, place_of}
use Rattle.mt_tree.proofs.behind.WriterState.store_prealloc.Given as goal

abbrev pub ghosts-store_prealloc : goal.ghosts-store_prealloc
ghosts-store_prealloc a = record { table = place_of a.tree.now; turn = turn_seat a.pass.now; steps = steps_made a.pass.now }

abbrev pub ghosts-store_prealloc-2 : goal.ghosts-store_prealloc-2
ghosts-store_prealloc-2 a = record { table = place_of a.tree.now; turn = turn_seat a.pass.now; steps = steps_made a.pass.now }
