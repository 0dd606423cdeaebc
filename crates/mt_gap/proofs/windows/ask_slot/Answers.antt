use Rattle.mt_gap.proofs.Prelude.{[], ◌∷◌, refl, ◌∙◌, Gapped, child_in, may_have}
use Rattle.mt_gap.proofs.Asking.{one_asked, room_some}
use Rattle.mt_gap.proofs.windows.ask_slot.Goals as goal

pub returns-clause-found : goal.returns-clause-found
returns-clause-found g c =
    let w = c.args.window in let x = child_in (g.R.Rows.sheet c.args.rows.now).tree.table Gapped c.args.at.row c.args.at.slot c.args.first c.args.last in
    let room = room_some (may_have w.size w.lo w.hi x) x c.in-Some.child c.in-Some.ensures.child in
    c.is_inside.ensures x.span.word x.gap ∙ (one_asked w.size w.lo w.hi [] (x ∷ []) x room.0 refl).1
