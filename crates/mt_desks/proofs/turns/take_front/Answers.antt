use Rattle.mt_desks.proofs.Prelude.{◌≡◌, List, [], ap, ◌∙◌, map, get_or, slice_set, Bor, map-set, get_or-map, Entry, room_at}
use Rattle.mt_desks.proofs.turns.take_front.Goals as goal

abbrev shown : Bor (List Entry) → List Entry
shown r = r.now

pub returns-in_ok-extend_from_slice-clause-rooms : goal.returns-in_ok-extend_from_slice-clause-rooms
returns-in_ok-extend_from_slice-clause-rooms c =
    let none : Bor (List Entry) = record { ref_ptr = (0, 0); now = [] } in
    let rooms : List (Bor (List Entry)) = c.args.rooms.now in
    let room : room_at (map shown rooms) c.args.lane ≡ (get_or rooms c.args.lane none).now = get_or-map shown rooms c.args.lane none [] c.if-lane-rooms.true in
    map-set shown rooms c.args.lane c.split_at.result.1 ∙ ap (slice_set (map shown rooms) c.args.lane) (rw (room, ← c.front_len.ensures.is) c.split_at.ensures.back)
