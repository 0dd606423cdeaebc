use Rattle.mt_desks.proofs.Asking.{own_asked}
use Rattle.mt_desks.proofs.laws.a_lane_is_asked_its_lines.Goals as goal

pub returns : goal.returns
returns c = own_asked
