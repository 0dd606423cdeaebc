use Rattle.mt_read.proofs.Finding.{sees_on}
use Rattle.mt_read.proofs.seeks.touch_slots.Goals as goal

pub returns-clause-sees : goal.returns-clause-sees
returns-clause-sees g c = sees_on _ _ _ c.touch_in.ensures.sees c.touch_in-2.ensures.sees
