use Rattle.mt_free.proofs.StillOut.{out_after_take, out_after_retire, out_after_reclaim}
use Rattle.mt_free.proofs.laws.out_stays_out.Goals as goal

pub returns : goal.returns
returns c = record { take = out_after_take; retire = out_after_retire; reclaim = out_after_reclaim }
