use Rattle.mt_splice.proofs.Prelude.{◌≤◌, length, refl, ap, rules, arith}
use Rattle.mt_splice.proofs.Rooms.{root_free, root_note, windows_room, left_long, right_long, none_room, none_left_long, none_right_long, still_free}
use Rattle.mt_splice.proofs.Topped.{ends_empty, ends_at_root, ends_in_slot, ends_above, many_new, many_rows, new_some, new_rises, slot_fits}
use Rattle.mt_splice.proofs.climbing.top_of.Goals as goal

pub push_above-requires-clause-left : goal.push_above-requires-clause-left
push_above-requires-clause-left g c = let deep = none_left_long (rw c.in-Empty.is at c.requires.level) in omega arith

pub push_above-requires-clause-right : goal.push_above-requires-clause-right
push_above-requires-clause-right g c = let deep = none_right_long (rw c.in-Empty.is at c.requires.level) in omega arith

pub push_above-requires-clause-room : goal.push_above-requires-clause-room
push_above-requires-clause-room g c = none_room (rw c.in-Empty.is at c.requires.level)

pub push_above-requires-in-Root-clause-left : goal.push_above-requires-in-Root-clause-left
push_above-requires-in-Root-clause-left g c = let deep = left_long (rw c.in-Root.is at c.requires.level) in omega arith

pub push_above-requires-in-Root-clause-right : goal.push_above-requires-in-Root-clause-right
push_above-requires-in-Root-clause-right g c = let deep = right_long (rw c.in-Root.is at c.requires.level) in omega arith

pub push_above-requires-in-Root-clause-room : goal.push_above-requires-in-Root-clause-room
push_above-requires-in-Root-clause-room g c = windows_room (rw c.in-Root.is at c.requires.level)

pub bounds-new-0 : goal.bounds-new-0
bounds-new-0 g c =
    let d = rw c.in-Root.is at c.requires.level in
    let some : 1 ≤ length c.args.drafted.now.heads.items.items = (let many = many_new d in let one = d.goes_on.1 in omega arith) in let same = ap length c.as_slice-new.ensures.value in search rules

pub draft_piece-root-requires-clause-free : goal.draft_piece-root-requires-clause-free
draft_piece-root-requires-clause-free g c = root_free (rw c.in-RootAbove.is at c.requires.level)

pub draft_piece-root-requires-clause-spare : goal.draft_piece-root-requires-clause-spare
draft_piece-root-requires-clause-spare g c = let d = rw c.in-RootAbove.is at c.requires.level in still_free d.case.was d.ledger

pub draft_piece-root-requires-clause-some : goal.draft_piece-root-requires-clause-some
draft_piece-root-requires-clause-some g c = let some = new_some (rw c.in-RootAbove.is at c.requires.level) in let same = ap length c.as_slice-new.ensures.value in omega arith

pub draft_piece-root-requires-clause-rise : goal.draft_piece-root-requires-clause-rise
draft_piece-root-requires-clause-rise g c = new_rises (rw c.in-RootAbove.is at c.requires.level) c.as_slice-new.ensures.value

pub draft_piece-root-requires-clause-room : goal.draft_piece-root-requires-clause-room
draft_piece-root-requires-clause-room g c = root_note (rw c.in-RootAbove.is at c.requires.level)

pub slot_on-place-requires-clause-deep : goal.slot_on-place-requires-clause-deep
slot_on-place-requires-clause-deep g c = let deep = left_long (rw c.in-Slot.is at c.requires.level) in omega arith

pub slot_on-place-requires-clause-fits : goal.slot_on-place-requires-clause-fits
slot_on-place-requires-clause-fits g c = slot_fits (rw c.in-Slot.is at c.requires.level) c.width.ensures

pub bounds-new-0-in-Slot : goal.bounds-new-0-in-Slot
bounds-new-0-in-Slot g c =
    let d = rw c.in-Slot.is at c.requires.level in
    let some : 1 ≤ length c.args.drafted.now.heads.items.items = (let many = many_new d in let one = d.goes_on.2 in omega arith) in let same = ap length c.as_slice-new.ensures.value in search rules

pub bounds-new-0-in-Slot-2 : goal.bounds-new-0-in-Slot-2
bounds-new-0-in-Slot-2 g c =
    let d = rw c.in-Slot.is at c.requires.level in
    let some : 1 ≤ length c.args.drafted.now.heads.items.items = (let many = many_new d in let one = d.goes_on.2 in omega arith) in let same = ap length c.as_slice-new.ensures.value in search rules

pub returns-in-Empty-clause-climbed : goal.returns-in-Empty-clause-climbed
returns-in-Empty-clause-climbed g c = ends_empty (rw c.in-Empty.is at c.requires.level) c.push_above.ensures refl refl refl refl refl refl

pub returns-in-Root-clause-climbed : goal.returns-in-Root-clause-climbed
returns-in-Root-clause-climbed g c = rw (c.as_slice-new.ensures.value, c.as_slice-numbers.ensures.value) (ends_at_root (rw c.in-Root.is at c.requires.level) (record { last = 0; word = 0; gap = 0 }) 0 c.push_above-in-Root.ensures refl refl refl refl refl refl)

pub returns-in-RootAbove-clause-climbed : goal.returns-in-RootAbove-clause-climbed
returns-in-RootAbove-clause-climbed g c = ends_above (rw c.in-RootAbove.is at c.requires.level) (rw c.as_slice-new.ensures.value at c.draft_piece-root.ensures.piece) refl refl refl refl refl refl refl

pub returns-in-Slot-clause-climbed : goal.returns-in-Slot-clause-climbed
returns-in-Slot-clause-climbed g c = rw (c.as_slice-new.ensures.value, c.as_slice-numbers.ensures.value) (ends_in_slot (rw c.in-Slot.is at c.requires.level) (record { last = 0; word = 0; gap = 0 }) 0 c.width.ensures c.slot_on-place.ensures refl refl refl)

pub bounds-numbers-0 : goal.bounds-numbers-0
bounds-numbers-0 g c =
    let d = rw c.in-Root.is at c.requires.level in
    let some : 1 ≤ length c.args.drafted.now.heads.rows.items = (let many = many_rows d in let one = d.goes_on.1 in omega arith) in let same = ap length c.as_slice-numbers.ensures.value in search rules

pub bounds-numbers-0-in-Slot : goal.bounds-numbers-0-in-Slot
bounds-numbers-0-in-Slot g c =
    let d = rw c.in-Slot.is at c.requires.level in
    let some : 1 ≤ length c.args.drafted.now.heads.rows.items = (let many = many_rows d in let one = d.goes_on.2 in omega arith) in let same = ap length c.as_slice-numbers.ensures.value in search rules
