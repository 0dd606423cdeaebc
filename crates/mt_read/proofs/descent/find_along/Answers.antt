use Rattle.mt_read.proofs.Prelude.{rules, arith, ◌≡◌, ◌-◌, Some, ◌∙◌, refl, sym, slice_get, few_slots_of, some_slots_of, here, kind_of, spans_here, part_of}
use Rattle.mt_read.proofs.Finding.{sees_on, on_more, place_more, pivot_is, count_is, slots_counted, one_passed, found_at_pivot, found_at_last}
use Rattle.mt_read.proofs.descent.find_along.Goals as goal

pub returns-then-index-pivot-clause-place : goal.returns-then-index-pivot-clause-place
returns-then-index-pivot-clause-place g c =
    let q = part_of c.args.pass.now in
    let on = c.requires.on in
    let min = on.min in let max = on.max in
    let count = count_is q c.args.row.now on c.slots-last_slot.result c.slots-last_slot.ensures in
    let is = pivot_is q c.args.row.now on _ _ c.loop-slot.slot _ c.loop-slot.invariant.sees c.load_pivot-pivot.ensures.told in
    place_more q (part_of c.load_pivot-pivot.new.pass) _ (sees_on _ _ _ c.loop-slot.invariant.sees c.load_pivot-pivot.ensures.told.reads) (found_at_pivot q c.args.index c.loop-slot.slot c.loop-slot.first c.load_pivot-pivot.result on.shape.fills (omega arith) is (omega arith) c.if-index-pivot.true (omega arith) c.loop-slot.invariant.passed)

pub loop-slot-preserved : goal.loop-slot-preserved
loop-slot-preserved g c =
    let q = part_of c.args.pass.now in
    let on = c.requires.on in
    let max = on.max in
    let count = count_is q c.args.row.now on c.slots-last_slot.result c.slots-last_slot.ensures in
    let is = pivot_is q c.args.row.now on _ _ c.loop-slot.slot _ c.loop-slot.invariant.sees c.load_pivot-pivot.ensures.told in
    record {
      stepped = search rules;
      sees = sees_on _ _ _ c.loop-slot.invariant.sees c.load_pivot-pivot.ensures.told.reads;
      on = on_more _ _ _ c.load_pivot-pivot.ensures.told.reads c.loop-slot.invariant.on;
      passed = one_passed q c.args.index c.loop-slot.slot c.loop-slot.first c.load_pivot-pivot.result (omega arith) is c.if-index-pivot.false (omega arith) c.loop-slot.invariant.passed;
      from = omega arith;
      counted = omega arith;
      steps = omega arith;
    }

pub returns-clause-place : goal.returns-clause-place
returns-clause-place g c =
    let q = part_of c.args.pass.now in
    let on = c.requires.on in
    let min = on.min in let max = on.max in
    let count = count_is q c.args.row.now on c.slots-last_slot.result c.slots-last_slot.ensures in
    let end : c.loop-slot.slot ≡ c.slots-last_slot.result - 1 = omega arith in
    let some = some_slots_of (here q).width (kind_of q (here q)) in
    let place = found_at_last q c.args.index c.loop-slot.slot c.loop-slot.first on.shape.fills (omega arith) (omega arith) (omega arith) c.loop-slot.invariant.passed in
    place_more q (part_of c.loop-slot.pass) _ c.loop-slot.invariant.sees (record { word = place.word; stands = (λ i. slice_get (spans_here q (here q)) (sym end i)) ∙ (place.stands ∙ (λ i. Some (record { first = c.loop-slot.first; last = sym max i; word = place.word }))) })

pub returns-then-index-pivot-clause-on : goal.returns-then-index-pivot-clause-on
returns-then-index-pivot-clause-on g c = on_more _ _ _ c.load_pivot-pivot.ensures.told.reads c.loop-slot.invariant.on

pub overflow_sub-last_slot : goal.overflow_sub-last_slot
overflow_sub-last_slot g c = let some = some_slots_of c.args.row.now.width c.args.row.now.kind in omega arith

pub load_pivot-pivot-requires-clause-pivot : goal.load_pivot-pivot-requires-clause-pivot
load_pivot-pivot-requires-clause-pivot g c =
    let count = slots_counted (part_of c.loop-slot.pass) c.args.row.now c.loop-slot.invariant.on c.slots-last_slot.result c.slots-last_slot.ensures in
    (c.loop-slot.slot, refl, omega arith)

pub returns-then-index-pivot-clause-pivots : goal.returns-then-index-pivot-clause-pivots
returns-then-index-pivot-clause-pivots g c =
    let count = slots_counted (part_of c.args.pass.now) c.args.row.now c.requires.on c.slots-last_slot.result c.slots-last_slot.ensures in
    omega arith

pub returns-then-index-pivot-clause-steps : goal.returns-then-index-pivot-clause-steps
returns-then-index-pivot-clause-steps g c = let few = few_slots_of c.args.row.now.width c.args.row.now.kind in omega arith

pub returns-clause-pivots : goal.returns-clause-pivots
returns-clause-pivots g c =
    let count = slots_counted (part_of c.args.pass.now) c.args.row.now c.requires.on c.slots-last_slot.result c.slots-last_slot.ensures in
    let some = some_slots_of c.args.row.now.width c.args.row.now.kind in
    omega arith

pub returns-clause-steps : goal.returns-clause-steps
returns-clause-steps g c = let few = few_slots_of c.args.row.now.width c.args.row.now.kind in omega arith
