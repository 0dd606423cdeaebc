use Rattle.mt_bulk.proofs.Finished.{bulk_is_lawful}
use Rattle.mt_bulk.proofs.laws.what_is_built_is_lawful.Goals as goal

pub returns : goal.returns
returns c = bulk_is_lawful
