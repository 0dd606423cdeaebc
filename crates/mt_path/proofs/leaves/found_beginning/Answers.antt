use Rattle.mt_path.proofs.Beginnings.{found_begins}
use Rattle.mt_path.proofs.leaves.found_beginning.Goals as goal

pub last_in-last-requires-clause-slot : goal.last_in-last-requires-clause-slot
last_in-last-requires-clause-slot g c = c.requires.begins.used

pub returns-clause-found : goal.returns-clause-found
returns-clause-found g c =
    found_begins (g.R.Rows.sheet c.args.rows.now).tree.table c.args.row c.requires.lawful c.args.slot c.args.index c.requires.begins c.last_in-last.result c.found_in.result c.last_in-last.ensures.last c.found_in.ensures
