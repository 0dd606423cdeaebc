use Rattle.mt_rows.proofs.Joins.{map_of-append, times-append}
use Rattle.mt_rows.proofs.laws.rows_stand_side_by_side.Goals as goal

pub returns : goal.returns
returns c = record { ranges = map_of-append; rows = times-append }
