use Rattle.mt_desks.proofs.Answered.{none_worn}
use Rattle.mt_desks.proofs.laws.lines_are_answered_where_no_tree_is_worn.Goals as goal

pub returns : goal.returns
returns c = none_worn
