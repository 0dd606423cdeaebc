use Rattle.mt_pen.proofs.Working.{worked_draft}
use Rattle.mt_pen.proofs.rows.PenRowsRows.draft.Goals as goal

pub invariant_of-self-clause-worked : goal.invariant_of-self-clause-worked
invariant_of-self-clause-worked g c = worked_draft c.args.row c.args.col c.args.word _ _ _ _ c.draft.ensures.pen c.args.self.now.worked
