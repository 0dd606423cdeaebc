use Rattle.mt_life.proofs.Turning.{live_reached_after}
use Rattle.mt_life.proofs.laws.live_rows_are_reached.Goals as goal

pub returns : goal.returns
returns c = live_reached_after
