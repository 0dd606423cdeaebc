use Rattle.mt_c.proofs.Reserving.{reserve_lasts}
use Rattle.mt_c.proofs.laws.a_reserve_lasts.Goals as goal

pub returns : goal.returns
returns c = reserve_lasts
