use Rattle.mt_life.proofs.Following.{follow, follow_listed}
use Rattle.mt_life.proofs.laws.extents_follow.Goals as goal

pub returns : goal.returns
returns c = record { each = follow; listed = follow_listed }
