use Rattle.mt_path.proofs.Loads.{along_reads}
use Rattle.mt_path.proofs.rows.find_by.Goals as goal

pub returns-in-Along-clause-reads : goal.returns-in-Along-clause-reads
returns-in-Along-clause-reads g c = along_reads c.find_along.result.step (g.R.Rows.sheet c.args.rows.now) (g.R.Rows.sheet c.find_along.new.rows) c.find_along.ensures.reads
