use Rattle.mt_leaf.proofs.Counts.{one_short, one_to_a_hole, two_short, two_to_a_hole}
use Rattle.mt_leaf.proofs.laws.an_edit_is_short.Goals as goal

pub returns : goal.returns
returns c = record { one = one_short; one_to_a_hole = one_to_a_hole; two = two_short; two_to_a_hole = two_to_a_hole }
