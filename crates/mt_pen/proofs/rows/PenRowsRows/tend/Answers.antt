use Rattle.mt_pen.proofs.Working.{worked_tend}
use Rattle.mt_pen.proofs.rows.PenRowsRows.tend.Goals as goal

pub invariant_of-self-clause-worked : goal.invariant_of-self-clause-worked
invariant_of-self-clause-worked g c = worked_tend c.args.row c.args.col c.args.word _ _ _ _ c.tend.ensures.pen c.args.self.now.worked
