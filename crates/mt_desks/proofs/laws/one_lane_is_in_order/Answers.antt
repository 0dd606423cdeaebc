use Rattle.mt_desks.proofs.Alone.{all_its_own, in_order}
use Rattle.mt_desks.proofs.laws.one_lane_is_in_order.Goals as goal

pub returns-clause-order : goal.returns-clause-order
returns-clause-order c = in_order

pub returns-clause-all : goal.returns-clause-all
returns-clause-all c = all_its_own
