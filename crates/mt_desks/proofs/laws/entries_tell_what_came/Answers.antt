use Rattle.mt_desks.proofs.Linked.{answers_told}
use Rattle.mt_desks.proofs.laws.entries_tell_what_came.Goals as goal

pub returns : goal.returns
returns c = answers_told
