use Rattle.mt_splice.proofs.Prelude.{greatest, before_of, start_for}
use Rattle.mt_splice.proofs.clears.clear.Given as goal

abbrev pub ghosts-clear_as : goal.ghosts-clear_as
ghosts-clear_as g a = record { before = before_of a.kind (g.R.Rows.sheet a.rows.now) a.book.now a.event.now.number; start = start_for a.kind (g.R.Rows.sheet a.rows.now) a.event.now.call.now 0 (greatest (g.R.Rows.sheet a.rows.now).tree.table.width) }
