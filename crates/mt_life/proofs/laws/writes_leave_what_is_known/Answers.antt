use Rattle.mt_life.proofs.Writing.{draft_leaves, bury_leaves, tend_leaves}
use Rattle.mt_life.proofs.laws.writes_leave_what_is_known.Goals as goal

pub returns : goal.returns
returns c = record { draft = draft_leaves; bury = bury_leaves; tend = tend_leaves }
