use Rattle.mt_gap.proofs.Prelude.{◌∙◌, if◌then◌else◌, Gapped, child_in, into_one_more, may_have}
use Rattle.mt_gap.specs.declared.ways.Below.TheVariants as below_row
use Rattle.mt_gap.proofs.Asking.{room_none, room_some}
use Rattle.mt_gap.proofs.OneWay.{adds, passes}
use Rattle.mt_gap.proofs.ways.take_slot.Goals as goal

pub returns-in_default-clause-below : goal.returns-in_default-clause-below
returns-in_default-clause-below g c =
    let w = c.args.window in let x = child_in (g.R.Rows.sheet c.args.rows.now).tree.table Gapped c.args.at.row c.args.at.slot c.args.first c.args.last in
    (passes c.args.side w c.args.at.slot x c.args.below.now (room_none (may_have w.size w.lo w.hi x) x c.in_default.ensures.child)).0

pub returns-in_default-clause-ends : goal.returns-in_default-clause-ends
returns-in_default-clause-ends g c =
    let w = c.args.window in let x = child_in (g.R.Rows.sheet c.args.rows.now).tree.table Gapped c.args.at.row c.args.at.slot c.args.first c.args.last in
    (passes c.args.side w c.args.at.slot x c.args.below.now (room_none (may_have w.size w.lo w.hi x) x c.in_default.ensures.child)).1

pub returns-clause-below : goal.returns-clause-below
returns-clause-below g c =
    let w = c.args.window in let b = c.args.below.now in let slot = c.args.at.slot in
    let x = child_in (g.R.Rows.sheet c.args.rows.now).tree.table Gapped c.args.at.row slot c.args.first c.args.last in
    let room = room_some (may_have w.size w.lo w.hi x) x c.in-Some.child c.in-Some.ensures.child in
    c.one_more_up.ensures
    ∙ ((λ i. if c.forgets.ensures i then below_row.One slot (room.1 i).span else into_one_more slot (room.1 i).span b)
    ∙ (adds c.args.side w slot x b room.0 c.is_inside-sure.result (c.is_inside-sure.ensures x.span.word x.gap)).0)

pub returns-clause-ends : goal.returns-clause-ends
returns-clause-ends g c =
    let w = c.args.window in let b = c.args.below.now in let slot = c.args.at.slot in
    let x = child_in (g.R.Rows.sheet c.args.rows.now).tree.table Gapped c.args.at.row slot c.args.first c.args.last in
    let room = room_some (may_have w.size w.lo w.hi x) x c.in-Some.child c.in-Some.ensures.child in
    c.ends.ensures ∙ (adds c.args.side w slot x b room.0 c.is_inside-sure.result (c.is_inside-sure.ensures x.span.word x.gap)).1
