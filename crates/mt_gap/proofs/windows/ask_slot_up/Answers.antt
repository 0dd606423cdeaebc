use Rattle.mt_gap.proofs.Prelude.{◌++◌, [], ◌∷◌, sym, ◌∙◌, if◌then◌else◌, Gapped, child_in, may_have}
use Rattle.mt_gap.proofs.Asking.{one_up, one_up_room, room_some}
use Rattle.mt_gap.proofs.windows.ask_slot_up.Goals as goal

pub take_up-requires : goal.take_up-requires
take_up-requires g c =
    let w = c.args.window in let x = child_in (g.R.Rows.sheet c.args.rows.now).tree.table Gapped c.args.at.row c.args.at.slot c.args.first c.args.last in
    let room = room_some (may_have w.size w.lo w.hi x) x c.in-Some.child c.in-Some.ensures.child in
    record { room = λ over. one_up_room w.size w.lo w.hi c.args.asked.now.items x room.0 (sym (c.is_inside.ensures x.span.word x.gap) ∙ over) c.requires.room }

pub returns-in-Some-clause-items : goal.returns-in-Some-clause-items
returns-in-Some-clause-items g c =
    let w = c.args.window in let x = child_in (g.R.Rows.sheet c.args.rows.now).tree.table Gapped c.args.at.row c.args.at.slot c.args.first c.args.last in
    let room = room_some (may_have w.size w.lo w.hi x) x c.in-Some.child c.in-Some.ensures.child in
    one_up w.size w.lo w.hi c.args.asked.now.items c.take_up.new.asked.items x room.0
    (c.take_up.ensures ∙ (λ i. if c.is_inside.ensures x.span.word x.gap i then room.1 i ∷ [] else c.args.asked.now.items ++ (room.1 i ∷ [])))
