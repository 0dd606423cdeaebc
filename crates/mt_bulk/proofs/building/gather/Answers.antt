use Rattle.mt_bulk.proofs.Prelude.{ap, arith, vec_len, vec_capacity}
use Rattle.mt_bulk.proofs.Laying.{first_has, room_behind}
use Rattle.mt_bulk.proofs.building.gather.Goals as goal

pub returns-in_default-clause-room : goal.returns-in_default-clause-room
returns-in_default-clause-room c = λ words heads some room. let none = c.in_default.ensures.cases in absurd (omega (arith, some, none))

pub append_all-requires-clause-words : goal.append_all-requires-clause-words
append_all-requires-clause-words c = omega (arith, (room_behind c.args.lanes.now c.in-Some.others.now c.in-Some.first.now c.in-Some.ensures.cases.0 c.requires).0, ap (λ w. vec_len w) c.replace-words.ensures.value, ap (λ w. vec_capacity w) c.replace-words.ensures.value, c.in-Some.first.now.desk.words.ok.0)

pub append_all-requires-clause-heads : goal.append_all-requires-clause-heads
append_all-requires-clause-heads c = omega (arith, (room_behind c.args.lanes.now c.in-Some.others.now c.in-Some.first.now c.in-Some.ensures.cases.0 c.requires).1, ap (λ w. vec_len w) c.replace-heads.ensures.value, ap (λ w. vec_capacity w) c.replace-heads.ensures.value, c.in-Some.first.now.desk.heads.ok.0)

pub returns-clause-room : goal.returns-clause-room
returns-clause-room c = λ words heads some room.
    let low = first_has c.args.lanes.now c.in-Some.others.now c.in-Some.first.now words heads c.in-Some.ensures.cases.0 room in
    let capacity = ap (λ w. vec_capacity w) c.replace-words.ensures.value in
    let kept = c.append_all.ensures.capacity in
    omega (arith, low, capacity, kept)
