use Rattle.mt_c.proofs.Prelude.{None}
use Rattle.mt_c.proofs.Duplicating.{copy_as}
use Rattle.mt_c.proofs.user.User.copy_told.Goals as goal

pub returns-in-Err-clause-lacks : goal.returns-in-Err-clause-lacks
returns-in-Err-clause-lacks c = copy_as c.shape_of-shape.result _ c.shape_of-shape.ensures c.args.self.now c.dup_told.new.self None c.in-Err.status c.in-Err.ensures.lacks
