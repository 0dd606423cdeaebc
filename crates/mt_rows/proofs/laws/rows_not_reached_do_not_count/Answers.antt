use Rattle.mt_rows.proofs.Frames.{ranges_stay}
use Rattle.mt_rows.proofs.laws.rows_not_reached_do_not_count.Goals as goal

pub returns : goal.returns
returns c = λ t t' depth x width same. ranges_stay t t' width depth x same
