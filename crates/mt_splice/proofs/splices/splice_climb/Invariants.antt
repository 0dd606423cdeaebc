use Rattle.mt_splice.proofs.Prelude.{last_step, before_of, start_for}
use Rattle.mt_splice.proofs.splices.splice_climb.Given as goal

abbrev pub ghosts-splice_as : goal.ghosts-splice_as
ghosts-splice_as g a = record {
  before = before_of a.kind (g.R.Rows.sheet a.rows.now) a.book.now a.event.now.number;
  start = start_for a.kind (g.R.Rows.sheet a.rows.now) a.event.now.call.now (last_step a.climb.now.ways.left.items).min (last_step a.climb.now.ways.right.items).max;
}
