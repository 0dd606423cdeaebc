use Rattle.mt_read.proofs.Prelude.{RowKind, arith, sym, ap, ◌∙◌, slots_of, part_of}
use Rattle.mt_read.proofs.Descending.{goes_entry, slot_fits, slot_is, column_of_slot}
use Rattle.mt_read.proofs.Reading.{leaf_kind, was_read}
use Rattle.mt_read.proofs.reads.range_at.Goals as goal

pub overflow_add-column : goal.overflow_add-column
overflow_add-column g c =
    let q = part_of c.args.pass.now in
    let few = slot_fits q c.args.leaf.now c.args.place.now c.slots.result c.requires.leaf.on c.requires.place
    (c.slots.ensures ∙ ap (λ (k : RowKind). slots_of c.args.leaf.now.width k) (sym (leaf_kind q c.args.leaf.now c.requires.leaf))) in
    omega arith

pub load_slot-entry-requires-clause-slot : goal.load_slot-entry-requires-clause-slot
load_slot-entry-requires-clause-slot g c =
    let q = part_of c.args.pass.now in
    slot_is q c.args.leaf.now c.args.place.now c.slots.result c.requires.leaf.on c.requires.place
    (c.slots.ensures ∙ ap (λ (k : RowKind). slots_of c.args.leaf.now.width k) (sym (leaf_kind q c.args.leaf.now c.requires.leaf)))

pub returns-clause-read : goal.returns-clause-read
returns-clause-read g c =
    let q = part_of c.args.pass.now in
    let column = column_of_slot q c.args.leaf.now c.args.place.now c.slots.result c.requires.leaf.on
    (c.slots.ensures ∙ ap (λ (k : RowKind). slots_of c.args.leaf.now.width k) (sym (leaf_kind q c.args.leaf.now c.requires.leaf))) in
    was_read q (part_of c.load_slot-entry.new.pass) c.args.leaf.now c.args.place.now _ _ c.requires.leaf c.requires.place column c.load_slot-entry.ensures.told c.range_or_hole.result c.range_or_hole.ensures

pub returns-clause-goes : goal.returns-clause-goes
returns-clause-goes g c = goes_entry _ _ _ _ (c.load_slot-entry.ensures.told.entry c.requires.leaf.level)
