use Rattle.mt_read.proofs.Finding.{sees_none, sees_on}
use Rattle.mt_read.proofs.seeks.touch_ends.Goals as goal

pub returns-in_default-clause-sees : goal.returns-in_default-clause-sees
returns-in_default-clause-sees g c = sees_none _

pub returns-clause-sees : goal.returns-clause-sees
returns-clause-sees g c = sees_on _ _ _ c.touch_in.ensures.sees c.touch_in-2.ensures.sees
