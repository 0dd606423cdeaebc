use Rattle.mt_splice.proofs.Prelude.{◌+◌, List, ap, ◌∙◌, arith, Item, first_of, Rooted, word_at, same_tree}
use Rattle.mt_splice.proofs.LeafRegions.{leaf_row, leaf_read, room_first, read_first, read_many, first_low, read_whole, read_part, slot_small, slot_place, slot_word}
use Rattle.mt_splice.proofs.leaves.push_below.Goals as goal

pub push_items-requires-clause-first : goal.push_items-requires-clause-first
push_items-requires-clause-first g c = (leaf_row c.requires.leaf).0

pub push_items-requires-clause-last : goal.push_items-requires-clause-last
push_items-requires-clause-last g c = (leaf_row c.requires.leaf).1

pub push_items-requires-clause-room : goal.push_items-requires-clause-room
push_items-requires-clause-room g c = room_first c.requires.leaf c.requires.empty

pub first_in-requires-clause-slot : goal.first_in-requires-clause-slot
first_in-requires-clause-slot g c = rw c.as_slice.ensures.value (read_many c.requires.leaf (read_first c.requires.leaf c.requires.empty c.push_items.ensures.items))

pub first_in-requires-clause-within : goal.first_in-requires-clause-within
first_in-requires-clause-within g c = let low = first_low c.requires.leaf (read_first c.requires.leaf c.requires.empty c.push_items.ensures.items) in let fits = c.ranges.first in
    let same = ap (λ (items : List Item). first_of c.args.leaf.now.min items c.args.leaf.now.slot) c.as_slice.ensures.value in
    omega arith

pub returns-then-first-first_in-clause-items : goal.returns-then-first-first_in-clause-items
returns-then-first-first_in-clause-items g c =
    let begins = c.first_in.ensures ∙ ap (λ (items : List Item). first_of c.args.leaf.now.min items c.args.leaf.now.slot) c.as_slice.ensures.value in
    let from = c.if-first-first_in.true in
    read_whole c.requires.leaf (read_first c.requires.leaf c.requires.empty c.push_items.ensures.items) (omega arith)

pub overflow_add-slots : goal.overflow_add-slots
overflow_add-slots g c =
    let same = same_tree (g.R.Rows.sheet c.args.rows.now) (g.R.Rows.sheet c.push_items.new.rows) c.push_items.ensures.rest in
    let small = slot_small (leaf_read c.requires.leaf same) c.width.ensures c.slots-slots.ensures in
    omega arith

pub load-word-requires : goal.load-word-requires
load-word-requires g c = let same = same_tree (g.R.Rows.sheet c.args.rows.now) (g.R.Rows.sheet c.push_items.new.rows) c.push_items.ensures.rest in slot_place (leaf_read c.requires.leaf same) c.width.ensures c.slots-slots.ensures

pub returns-clause-items : goal.returns-clause-items
returns-clause-items g c =
    let same = same_tree (g.R.Rows.sheet c.args.rows.now) (g.R.Rows.sheet c.push_items.new.rows) c.push_items.ensures.rest in
    let begins = c.first_in.ensures ∙ ap (λ (items : List Item). first_of c.args.leaf.now.min items c.args.leaf.now.slot) c.as_slice.ensures.value in
    let from = c.if-first-first_in.false in
    let width = c.width.ensures ∙ ap (λ (t : Rooted). t.table.width) same in
    let word = c.load-word.ensures.word ∙ ap (λ (t : Rooted). word_at t c.args.leaf.now.row (c.slots-slots.result + c.args.leaf.now.slot)) same in
    read_part c.requires.leaf (read_first c.requires.leaf c.requires.empty c.push_items.ensures.items) (omega arith) (slot_word c.requires.leaf width c.slots-slots.ensures word) c.push.ensures.items
