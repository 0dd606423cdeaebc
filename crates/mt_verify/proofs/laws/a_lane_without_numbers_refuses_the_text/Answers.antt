use Rattle.mt_verify.proofs.Refused.{none_refuses}
use Rattle.mt_verify.proofs.laws.a_lane_without_numbers_refuses_the_text.Goals as goal

pub returns : goal.returns
returns c = none_refuses
