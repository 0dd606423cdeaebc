use Rattle.mt_read.proofs.Prelude.{arith, ◌≢◌, ◌<◌, ◌+◌, sym, ap, ◌∙◌, refl, slice_index, kind_width, greatest_fits, RowKind, slots_of, few_slots_of, here, kind_of, part_of}
use Rattle.mt_read.proofs.Finding.{count_is, column_is, slots_are, place_more}
use Rattle.mt_read.proofs.Descending.{place_within}
use Rattle.mt_read.proofs.Beside.{used, last_behind, pivot_behind}
use Rattle.mt_read.proofs.Leaving.{leaf_more}
use Rattle.mt_read.proofs.Reading.{leaf_kind}
use Rattle.mt_read.proofs.reads.next_place.Given.{Over}
use Rattle.mt_read.proofs.reads.next_place.Goals.{Start}
use Rattle.mt_read.proofs.reads.next_place.Goals as goal

-- a node has 32 slots at most, of which the one behind the place is one
next_slot : (g : Over) (c : Start g) → c.args.place.now.slot + 1 < 32
next_slot g c =
    let q = part_of c.args.pass.now in
    let low = used q c.args.leaf.now c.args.place.now c.requires.leaf.on c.requires.place (λ e. c.requires.more (e ∙ sym c.requires.leaf.on.max)) in
    let few = few_slots_of (here q).width (kind_of q (here q)) in
    omega arith

pub overflow_add-first : goal.overflow_add-first
overflow_add-first g c =
    let q = part_of c.args.pass.now in
    let more = c.requires.more in
    let max = c.requires.leaf.on.max in
    let last = (place_within q c.args.leaf.now c.args.place.now c.requires.leaf.on c.requires.place).2 in
    let within = c.requires.leaf.on.within in
    let top = greatest_fits (kind_width q.shape.kind) in
    omega arith

pub overflow_add-slot : goal.overflow_add-slot
overflow_add-slot g c = omega (arith, next_slot g (goal.at.overflow_add-slot g c).Start)

pub overflow_add-slot-2 : goal.overflow_add-slot-2
overflow_add-slot-2 g c = omega (arith, next_slot g (goal.at.overflow_add-slot-2 g c).Start)

pub returns-then-slot-slots-clause-place : goal.returns-then-slot-slots-clause-place
returns-then-slot-slots-clause-place g c =
    let q = part_of c.args.pass.now in
    let count = count_is q c.args.leaf.now c.requires.leaf.on c.slots.result (c.slots.ensures ∙ ap (λ (k : RowKind). slots_of c.args.leaf.now.width k) (sym (leaf_kind q c.args.leaf.now c.requires.leaf))) in
    last_behind q c.args.leaf.now c.args.place.now c.requires.leaf.on c.requires.place (λ e. c.requires.more (e ∙ sym c.requires.leaf.on.max))
    (c.args.place.now.slot + 1) (c.args.place.now.last + 1) c.args.leaf.now.max refl refl (c.if-slot-slots.true ∙ count) c.requires.leaf.on.max

pub overflow_add-slot-3 : goal.overflow_add-slot-3
overflow_add-slot-3 g c = omega (arith, next_slot g (goal.at.overflow_add-slot-3 g c).Start)

pub load_pivot-last-requires-clause-pivot : goal.load_pivot-last-requires-clause-pivot
load_pivot-last-requires-clause-pivot g c =
    let q = part_of c.args.pass.now in
    let count = count_is q c.args.leaf.now c.requires.leaf.on c.slots.result (c.slots.ensures ∙ ap (λ (k : RowKind). slots_of c.args.leaf.now.width k) (sym (leaf_kind q c.args.leaf.now c.requires.leaf))) in
    let low = used q c.args.leaf.now c.args.place.now c.requires.leaf.on c.requires.place (λ e. c.requires.more (e ∙ sym c.requires.leaf.on.max)) in
    let same = slots_are q c.args.leaf.now c.requires.leaf.on in
    let other = c.if-slot-slots.false in
    (c.args.place.now.slot + 1, refl, omega arith)

pub returns-clause-place : goal.returns-clause-place
returns-clause-place g c =
    let q = part_of c.args.pass.now in
    let on = c.requires.leaf.on in
    let more : c.args.place.now.last ≢ (here q).extent.last = λ e. c.requires.more (e ∙ sym on.max) in
    let count = count_is q c.args.leaf.now on c.slots.result (c.slots.ensures ∙ ap (λ (k : RowKind). slots_of c.args.leaf.now.width k) (sym (leaf_kind q c.args.leaf.now c.requires.leaf))) in
    let low = used q c.args.leaf.now c.args.place.now on c.requires.place more in
    let other = c.if-slot-slots.false in
    let last = c.load_pivot-last.ensures.told.found_is ∙ ap (slice_index (here q).copy) (column_is q c.args.leaf.now on (1 + (c.args.place.now.slot + 1))) in
    place_more q (part_of c.load_pivot-last.new.pass) _ c.load_pivot-last.ensures.told.reads
    (pivot_behind q c.args.leaf.now c.args.place.now on c.requires.place more (c.args.place.now.slot + 1) (c.args.place.now.last + 1) c.load_pivot-last.result refl refl (omega arith) last)

pub returns-clause-leaf : goal.returns-clause-leaf
returns-clause-leaf g c = leaf_more _ _ _ c.load_pivot-last.ensures.told.reads c.requires.leaf
