use Rattle.mt_path.proofs.Prelude.{ReadsUpTo}
use Rattle.mt_path.proofs.Searches.{PassedIn}
use Rattle.mt_path.proofs.rows.find_along.Given as goal

abbrev pub invariant-loop-slot : goal.invariant-loop-slot
invariant-loop-slot g l =
    let sheet = g.R.Rows.sheet l.fn.rows in
    ReadsUpTo l.slot sheet (g.R.Rows.sheet l.rows) × PassedIn sheet.tree.table l.row l.index l.slot l.first
