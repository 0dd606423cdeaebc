use Rattle.mt_base.proofs.StoredOrder.{over_is_map}
use Rattle.mt_base.proofs.laws.store_keeps_map.Goals as goal

pub returns : goal.returns
returns c = over_is_map
