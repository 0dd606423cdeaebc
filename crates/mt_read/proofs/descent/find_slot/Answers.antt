use Rattle.mt_read.proofs.Prelude.{◌<◌, ◌≤◌, length, ap, ◌∙◌, refl, sym, arith, Span, Held, here, part_of, spans_here, IsPlaceIn}
use Rattle.mt_read.proofs.Finding.{on_spot, on_more, sees_on, place_more, place_in, slot_used, slots_counted, span_kept, used_kept}
use Rattle.mt_read.proofs.Descending.{here_more}
use Rattle.mt_read.proofs.descent.find_slot.Given.{Over}
use Rattle.mt_read.proofs.descent.find_slot.Goals.{After-seek-slot, After-last_in-last}
use Rattle.mt_read.proofs.descent.find_slot.Goals as goal

pub seek-slot-requires-clause-on : goal.seek-slot-requires-clause-on
seek-slot-requires-clause-on g c = on_spot (part_of c.args.pass.now) c.args.row.now c.requires.on

-- the slot that was sought is one of the row
used_slot : (g : Over) (c : After-seek-slot g) → c.seek-slot.result < length (spans_here (part_of c.args.pass.now) (here (part_of c.args.pass.now)))
used_slot g c =
    let max = c.requires.on.max in
    slot_used (part_of c.args.pass.now) c.args.row.now c.requires.on c.args.index c.seek-slot.result (omega (arith, c.requires.to)) c.seek-slot.ensures.slot

pub first_in-first-requires-clause-slot : goal.first_in-first-requires-clause-slot
first_in-first-requires-clause-slot g c =
    used_kept (part_of c.args.pass.now) c.args.row.now c.requires.on (part_of c.seek-slot.new.pass) c.seek-slot.result c.seek-slot.ensures.sees (used_slot g (goal.at.first_in-first-requires-clause-slot g c).After-seek-slot)

pub first_in-first-requires-clause-min : goal.first_in-first-requires-clause-min
first_in-first-requires-clause-min g c =
    let same = here_more _ _ c.seek-slot.ensures.sees in
    c.requires.on.min ∙ ap (λ (x : Held). x.extent.first) (sym same)

pub last_in-last-requires-clause-slot : goal.last_in-last-requires-clause-slot
last_in-last-requires-clause-slot g c =
    let sees = sees_on _ _ _ c.seek-slot.ensures.sees c.first_in-first.ensures.sees in
    used_kept (part_of c.args.pass.now) c.args.row.now c.requires.on (part_of c.first_in-first.new.pass) c.seek-slot.result sees (used_slot g (goal.at.last_in-last-requires-clause-slot g c).After-seek-slot)

pub last_in-last-requires-clause-max : goal.last_in-last-requires-clause-max
last_in-last-requires-clause-max g c =
    let same = here_more _ _ (sees_on _ _ _ c.seek-slot.ensures.sees c.first_in-first.ensures.sees) in
    c.requires.on.max ∙ ap (λ (x : Held). x.extent.last) (sym same)

pub returns-clause-sees : goal.returns-clause-sees
returns-clause-sees g c = sees_on _ _ _ (sees_on _ _ _ c.seek-slot.ensures.sees c.first_in-first.ensures.sees) c.last_in-last.ensures.sees

pub returns-clause-on : goal.returns-clause-on
returns-clause-on g c = on_more _ _ _ (sees_on _ _ _ (sees_on _ _ _ c.seek-slot.ensures.sees c.first_in-first.ensures.sees) c.last_in-last.ensures.sees) c.requires.on

pub returns-clause-pivots : goal.returns-clause-pivots
returns-clause-pivots g c =
    let count = slots_counted (part_of c.args.pass.now) c.args.row.now c.requires.on _ refl in
    let few = c.seek-slot.ensures.few in let first = c.first_in-first.ensures.steps in let last = c.last_in-last.ensures.steps in
    omega arith

-- the place that was found, and that it holds the index
placed : (g : Over) (c : After-last_in-last g) → IsPlaceIn (part_of c.args.pass.now) (record { slot = c.seek-slot.result; first = c.first_in-first.result; last = c.last_in-last.result }) × (c.first_in-first.result ≤ c.args.index) × (c.args.index ≤ c.last_in-last.result)
placed g c =
    let q = part_of c.args.pass.now in
    let on = c.requires.on in
    let min = on.min in
    let max = on.max in
    let seek = c.seek-slot in
    let q₁ = part_of seek.new.pass in
    let q₂ = part_of c.first_in-first.new.pass in
    let s₂ = sees_on q q₁ q₂ seek.ensures.sees c.first_in-first.ensures.sees in
    place_in q c.args.row.now on c.args.index seek.result c.first_in-first.result c.last_in-last.result (omega (arith, c.requires.from)) (omega (arith, c.requires.to)) seek.ensures.slot
    (c.first_in-first.ensures.first ∙ ap (λ (x : Span). x.first) (span_kept q c.args.row.now on q₁ seek.result seek.ensures.sees))
    (c.last_in-last.ensures.last ∙ ap (λ (x : Span). x.last) (span_kept q c.args.row.now on q₂ seek.result s₂))

pub returns-clause-place : goal.returns-clause-place
returns-clause-place g c =
    place_more (part_of c.args.pass.now) (part_of c.last_in-last.new.pass) _ (sees_on _ _ _ (sees_on _ _ _ c.seek-slot.ensures.sees c.first_in-first.ensures.sees) c.last_in-last.ensures.sees)
    (placed g (goal.at.returns-clause-place g c).After-last_in-last).0

pub returns-clause-from : goal.returns-clause-from
returns-clause-from g c = (placed g (goal.at.returns-clause-from g c).After-last_in-last).1

pub returns-clause-to : goal.returns-clause-to
returns-clause-to g c = (placed g (goal.at.returns-clause-to g c).After-last_in-last).2
