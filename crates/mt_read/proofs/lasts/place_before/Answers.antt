use Rattle.mt_read.proofs.Prelude.{rules, arith, ◌≡◌, ◌≢◌, ◌+◌, ◌-◌, ◌<◌, ap, ◌∙◌, slice_index, kind_width, greatest_fits, here, part_of}
use Rattle.mt_read.proofs.Finding.{column_is, place_more, slots_are}
use Rattle.mt_read.proofs.Descending.{place_within}
use Rattle.mt_read.proofs.Before.{first_before, first_some, pivot_before, used}
use Rattle.mt_read.proofs.lasts.place_before.Goals as goal

pub overflow_sub-last : goal.overflow_sub-last
overflow_sub-last g c =
    let some : c.args.place.now.first ≢ 0 = first_some (part_of c.args.pass.now) c.args.leaf.now c.args.place.now c.requires.leaf.on c.requires.place c.requires.more in
    omega arith

pub returns-then-slot-eq0-clause-place : goal.returns-then-slot-eq0-clause-place
returns-then-slot-eq0-clause-place g c =
    let some : c.args.place.now.first ≢ 0 = first_some (part_of c.args.pass.now) c.args.leaf.now c.args.place.now c.requires.leaf.on c.requires.place c.requires.more in
    let more = c.requires.more in
    let zero : c.args.place.now.slot - 1 ≡ 0 = search rules in
    first_before (part_of c.args.pass.now) c.args.leaf.now c.args.place.now c.requires.leaf.on c.requires.place c.requires.more (c.args.place.now.slot - 1) (c.args.place.now.first - 1) (omega arith) (omega arith) zero

pub load_pivot-pivot-requires-clause-pivot : goal.load_pivot-pivot-requires-clause-pivot
load_pivot-pivot-requires-clause-pivot g c =
    let q = part_of c.args.pass.now in
    let more = c.requires.more in
    let other : c.args.place.now.slot - 1 ≢ 0 = search rules in
    let low : c.args.place.now.slot < _ = used q c.args.leaf.now c.args.place.now c.requires.leaf.on c.requires.place c.requires.more in
    let same = slots_are q c.args.leaf.now c.requires.leaf.on in
    (c.args.place.now.slot - 1 - 1, omega arith, omega arith)

pub overflow_add-result : goal.overflow_add-result
overflow_add-result g c =
    let q = part_of c.args.pass.now in let on = c.requires.leaf.on in
    let some : c.args.place.now.first ≢ 0 = first_some q c.args.leaf.now c.args.place.now on c.requires.place c.requires.more in
    let more = c.requires.more in
    let other : c.args.place.now.slot - 1 ≢ 0 = search rules in
    let found = c.load_pivot-pivot.ensures.told.found_is ∙ ap (slice_index (here q).copy) (column_is q c.args.leaf.now on (c.args.place.now.slot - 1)) in
    let before = pivot_before q c.args.leaf.now c.args.place.now on c.requires.place c.requires.more (c.args.place.now.slot - 1) (c.args.place.now.first - 1) c.load_pivot-pivot.result (omega arith) (omega arith) other found in
    let inside = place_within q c.args.leaf.now (record { slot = c.args.place.now.slot - 1; first = c.load_pivot-pivot.result + 1; last = c.args.place.now.first - 1 }) on before in
    let order = inside.1 in let last = inside.2 in
    let within = on.within in let top = greatest_fits (kind_width q.shape.kind) in
    omega arith

pub returns-clause-last : goal.returns-clause-last
returns-clause-last g c =
    let some : c.args.place.now.first ≢ 0 = first_some (part_of c.args.pass.now) c.args.leaf.now c.args.place.now c.requires.leaf.on c.requires.place c.requires.more in
    omega arith

pub returns-clause-place : goal.returns-clause-place
returns-clause-place g c =
    let q = part_of c.args.pass.now in let on = c.requires.leaf.on in
    let some : c.args.place.now.first ≢ 0 = first_some q c.args.leaf.now c.args.place.now on c.requires.place c.requires.more in
    let more = c.requires.more in
    let other : c.args.place.now.slot - 1 ≢ 0 = search rules in
    let found = c.load_pivot-pivot.ensures.told.found_is ∙ ap (slice_index (here q).copy) (column_is q c.args.leaf.now on (c.args.place.now.slot - 1)) in
    place_more q (part_of c.load_pivot-pivot.new.pass) _ c.load_pivot-pivot.ensures.told.reads
    (pivot_before q c.args.leaf.now c.args.place.now on c.requires.place c.requires.more (c.args.place.now.slot - 1) (c.args.place.now.first - 1) c.load_pivot-pivot.result (omega arith) (omega arith) other found)
