use Rattle.mt_leaf.proofs.CutLaws.{nearest_first, nearest_last}
use Rattle.mt_leaf.proofs.laws.a_cut_towards_an_end_is_nearest.Goals as goal

pub returns : goal.returns
returns c = record { first = nearest_first; last = nearest_last }
