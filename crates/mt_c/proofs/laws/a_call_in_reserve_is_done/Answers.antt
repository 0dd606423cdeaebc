use Rattle.mt_c.proofs.Reserving.{did_in_reserve}
use Rattle.mt_c.proofs.laws.a_call_in_reserve_is_done.Goals as goal

pub returns : goal.returns
returns c = did_in_reserve
