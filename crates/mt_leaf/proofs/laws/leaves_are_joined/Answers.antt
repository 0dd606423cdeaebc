use Rattle.mt_leaf.proofs.Joined.{ranges_joined, fills_joined, apart_joined, length_joins, length_joined}
use Rattle.mt_leaf.proofs.laws.leaves_are_joined.Goals as goal

pub returns : goal.returns
returns c = record { ranges = ranges_joined; fills = fills_joined; apart = apart_joined; count = length_joins; most = length_joined }
