use Rattle.mt_tree.proofs.Prelude.{◌+◌}
use Rattle.mt_tree.proofs.Reserving.{told_room}
use Rattle.mt_tree.proofs.reserve.is_reserve.Goals as goal

pub returns : goal.returns
returns c = told_room c.args.rows (c.args.ranges + c.args.gain) c.rows_enough.result c.requires.rows c.rows_enough.ensures.rows
