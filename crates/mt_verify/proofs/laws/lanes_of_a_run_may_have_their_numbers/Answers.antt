use Rattle.mt_verify.proofs.EachLane.{lane_may_have}
use Rattle.mt_verify.proofs.laws.lanes_of_a_run_may_have_their_numbers.Goals as goal

pub returns : goal.returns
returns c = lane_may_have
