use Rattle.mt_read.proofs.Prelude.{◌≡◌, ◌≤◌, arith, refl, ap, ◌∙◌, subst, sym, greatest_of, RowKind, slots_of, PassPart, part_of, row_here, lines_touched, range_or_hole}
use Rattle.mt_read.proofs.Descending.{slot_is, slot_fits, column_of_slot, goes_entry, goes_sees, goes_on, here_more}
use Rattle.mt_read.proofs.Reading.{leaf_kind, was_read}
use Rattle.mt_read.proofs.Spots.{covers_more, leaf_more, on_leaf, place_at, place_low, placed, slot_more, was_before}
use Rattle.mt_read.proofs.entries.entry_in.Given.{Over}
use Rattle.mt_read.proofs.entries.entry_in.Goals.{After-slots}
use Rattle.mt_read.proofs.entries.entry_in.Goals as goal

-- so many slots as a leaf has
count_there : (g : Over) (c : After-slots g) → c.slots.result ≡ slots_of c.args.leaf.width (row_here (part_of c.seek-slot.new.pass) c.args.leaf).kind
count_there g c =
    let q₁ = part_of c.seek-slot.new.pass in
    let leaf = leaf_more (part_of c.args.pass.now) q₁ c.args.leaf c.seek-slot.ensures.sees c.requires.leaf in
    c.slots.ensures ∙ ap (λ (k : RowKind). slots_of c.args.leaf.width k) (sym (leaf_kind q₁ (row_here q₁ c.args.leaf) (on_leaf q₁ c.args.leaf leaf)))

pub overflow_add-column : goal.overflow_add-column
overflow_add-column g c =
    let q = part_of c.args.pass.now in let q₁ = part_of c.seek-slot.new.pass in
    let on = c.seek-slot.ensures.on in
    let covers = covers_more q q₁ c.args.index c.seek-slot.ensures.sees c.requires.covers in
    let is = slot_more q q₁ c.args.index c.seek-slot.result c.seek-slot.ensures.sees c.seek-slot.ensures.slot in
    let count = count_there g (goal.at.overflow_add-column g c).After-slots in
    let few = slot_fits q₁ (row_here q₁ c.args.leaf) (place_at q₁ c.args.leaf on c.args.index c.seek-slot.result covers is) c.slots.result on (placed q₁ c.args.leaf on c.args.index c.seek-slot.result covers is).0 count in
    omega arith

pub load_slot-requires-clause-slot : goal.load_slot-requires-clause-slot
load_slot-requires-clause-slot g c =
    let q = part_of c.args.pass.now in let q₁ = part_of c.seek-slot.new.pass in
    let on = c.seek-slot.ensures.on in
    let covers = covers_more q q₁ c.args.index c.seek-slot.ensures.sees c.requires.covers in
    let is = slot_more q q₁ c.args.index c.seek-slot.result c.seek-slot.ensures.sees c.seek-slot.ensures.slot in
    let count = count_there g (goal.at.load_slot-requires-clause-slot g c).After-slots in
    slot_is q₁ (row_here q₁ c.args.leaf) (place_at q₁ c.args.leaf on c.args.index c.seek-slot.result covers is) c.slots.result on (placed q₁ c.args.leaf on c.args.index c.seek-slot.result covers is).0 count

pub returns-clause-goes : goal.returns-clause-goes
returns-clause-goes g c =
    let q = part_of c.args.pass.now in let q₁ = part_of c.seek-slot.new.pass in
    let leaf = leaf_more q q₁ c.args.leaf c.seek-slot.ensures.sees c.requires.leaf in
    goes_on _ _ _ (goes_sees _ _ c.seek-slot.ensures.sees) (goes_entry _ _ _ _ (c.load_slot.ensures.told.entry leaf.level))

pub returns-clause-read : goal.returns-clause-read
returns-clause-read g c =
    let q = part_of c.args.pass.now in let q₁ = part_of c.seek-slot.new.pass in let q₂ = part_of c.load_slot.new.pass in
    let sees = c.seek-slot.ensures.sees in
    let on = c.seek-slot.ensures.on in
    let leaf = leaf_more q q₁ c.args.leaf sees c.requires.leaf in
    let covers = covers_more q q₁ c.args.index sees c.requires.covers in
    let is = slot_more q q₁ c.args.index c.seek-slot.result sees c.seek-slot.ensures.slot in
    let row = row_here q₁ c.args.leaf in
    let place = place_at q₁ c.args.leaf on c.args.index c.seek-slot.result covers is in
    let there = placed q₁ c.args.leaf on c.args.index c.seek-slot.result covers is in
    let count = count_there g (goal.at.returns-clause-read g c).After-slots in
    let column = column_of_slot q₁ row place c.slots.result on count in
    let was = was_read q₁ q₂ row place _ c.load_slot.result (on_leaf q₁ c.args.leaf leaf) there.0 column c.load_slot.ensures.told (range_or_hole place c.load_slot.result) refl in
    record {
      place = place;
      from = there.1;
      to = there.2;
      within = subst (λ (z : PassPart). place.last ≤ greatest_of z.shape.kind) sees.is (place_low q₁ c.args.leaf on c.args.index c.seek-slot.result covers is);
      read = was_before q q₁ q₂ place (range_or_hole place c.load_slot.result) (here_more q q₁ sees) was;
    }

pub returns-clause-steps : goal.returns-clause-steps
returns-clause-steps g c =
    let wide = ap lines_touched c.requires.leaf.on.wide in
    let sought = c.seek-slot.ensures.steps in let last = c.load_slot.ensures.steps in
    omega arith
