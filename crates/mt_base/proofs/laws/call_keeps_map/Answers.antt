use Rattle.mt_base.proofs.CallsKeepOrder.{acted_is_map}
use Rattle.mt_base.proofs.laws.call_keeps_map.Goals as goal

pub returns : goal.returns
returns c = acted_is_map
