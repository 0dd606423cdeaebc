use Rattle.mt_leaf.proofs.Stored.{stored_between}
use Rattle.mt_leaf.proofs.laws.leaves_between_do_not_count.Goals as goal

pub returns : goal.returns
returns c = stored_between
