use Rattle.mt_rows.proofs.Depth.{ranges_by_depth, rows_by_depth, height_by_depth}
use Rattle.mt_rows.proofs.laws.depth_and_levels_agree.Goals as goal

pub returns : goal.returns
returns c = record { ranges = ranges_by_depth; rows = rows_by_depth; height = height_by_depth }
