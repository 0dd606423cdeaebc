use Rattle.mt_tree.proofs.Keeping.{reserve_lasts}
use Rattle.mt_tree.proofs.laws.a_reserve_lasts.Goals as goal

pub returns : goal.returns
returns c = reserve_lasts
