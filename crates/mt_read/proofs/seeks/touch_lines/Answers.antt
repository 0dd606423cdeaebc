use Rattle.mt_read.proofs.Finding.{sees_on}
use Rattle.mt_read.proofs.Spots.{lines_few}
use Rattle.mt_read.proofs.seeks.touch_lines.Goals as goal

pub returns-clause-sees : goal.returns-clause-sees
returns-clause-sees g c = sees_on _ _ _ c.touch_slots.ensures.sees c.touch_ends.ensures.sees

pub returns-clause-steps : goal.returns-clause-steps
returns-clause-steps g c = lines_few c.args.spot.width _ _ _ c.touch_slots.ensures.steps c.touch_ends.ensures.steps c.touch_ends.ensures.wide
