use Rattle.mt_rows.proofs.Joins.{map_of_shared, times_shared}
use Rattle.mt_rows.proofs.laws.same_spans_stand_for_the_same.Goals as goal

pub returns : goal.returns
returns c = record { ranges = map_of_shared; rows = times_shared }
