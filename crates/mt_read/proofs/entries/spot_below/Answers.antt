use Rattle.mt_read.proofs.Prelude.{◌≡◌, ◌+◌, ◌≤◌, Option, arith, refl, ap, ◌∙◌, subst, sym, IsSome, kind_width, RowKind, Held, column_at, LoadedChild, here, part_of, row_here, row_steps, slot_column, slot_for, slots_in, spans_here, lines_touched, CoversHere, IsPlaceIn, PassPart, SlotPlace}
use Rattle.mt_read.proofs.Descending.{slot_is, slot_fits, column_of_slot, inner_level, child_ends, child_on, goes_sees, goes_down, goes_on, here_more}
use Rattle.mt_read.proofs.Spots.{covers_more, one_down, place_at, placed, row_steps_kept, slot_more}
use Rattle.mt_read.proofs.entries.spot_below.Given.{Over}
use Rattle.mt_read.proofs.entries.spot_below.Goals.{After-load_slot-name}
use Rattle.mt_read.proofs.entries.spot_below.Goals as goal

pub overflow_add-column : goal.overflow_add-column
overflow_add-column g c =
    let q = part_of c.args.pass.now in let q₁ = part_of c.seek-slot.new.pass in
    let sees = c.seek-slot.ensures.sees in
    let covers = covers_more q q₁ c.args.index sees c.requires.covers in
    let is = slot_more q q₁ c.args.index c.seek-slot.result sees c.seek-slot.ensures.slot in
    let few = slot_fits q₁ (row_here q₁ c.args.spot) (place_at q₁ c.args.spot c.seek-slot.ensures.on c.args.index c.seek-slot.result covers is) c.slots.result c.seek-slot.ensures.on
    (placed q₁ c.args.spot c.seek-slot.ensures.on c.args.index c.seek-slot.result covers is).0 c.slots.ensures in
    omega arith

pub load_slot-name-requires-clause-slot : goal.load_slot-name-requires-clause-slot
load_slot-name-requires-clause-slot g c =
    let q = part_of c.args.pass.now in let q₁ = part_of c.seek-slot.new.pass in
    let sees = c.seek-slot.ensures.sees in
    let covers = covers_more q q₁ c.args.index sees c.requires.covers in
    let is = slot_more q q₁ c.args.index c.seek-slot.result sees c.seek-slot.ensures.slot in
    slot_is q₁ (row_here q₁ c.args.spot) (place_at q₁ c.args.spot c.seek-slot.ensures.on c.args.index c.seek-slot.result covers is) c.slots.result c.seek-slot.ensures.on
    (placed q₁ c.args.spot c.seek-slot.ensures.on c.args.index c.seek-slot.result covers is).0 c.slots.ensures

pub spot_named-requires : goal.spot_named-requires
spot_named-requires g c =
    let q₁ = part_of c.seek-slot.new.pass in
    let told = c.load_slot-name.ensures.told.child (inner_level q₁ (row_here q₁ c.args.spot) c.seek-slot.ensures.on c.requires.inner) in
    record { name = subst (λ (o : Option RowKind). IsSome o) (sym told.comes.named) refl }

pub returns-clause-goes : goal.returns-clause-goes
returns-clause-goes g c =
    let q₁ = part_of c.seek-slot.new.pass in
    let told : LoadedChild (column_at (kind_width q₁.shape.kind) c.args.spot.at.number (c.slots.result + c.seek-slot.result)) c.load_slot-name.result q₁ (part_of c.load_slot-name.new.pass) =
    c.load_slot-name.ensures.told.child (inner_level q₁ (row_here q₁ c.args.spot) c.seek-slot.ensures.on c.requires.inner) in
    goes_on _ _ _ (goes_sees _ _ c.seek-slot.ensures.sees) (goes_down _ _ _ _ told)

module _ (g : Over) (c : After-load_slot-name g) where
  abbrev q₁ : PassPart
  q₁ = part_of c.seek-slot.new.pass

  abbrev q₂ : PassPart
  q₂ = part_of c.load_slot-name.new.pass

  covers : CoversHere q₁ c.args.index
  covers = covers_more (part_of c.args.pass.now) q₁ c.args.index c.seek-slot.ensures.sees c.requires.covers

  is : c.seek-slot.result ≡ slot_for (spans_here q₁ (here q₁)) c.args.index
  is = slot_more (part_of c.args.pass.now) q₁ c.args.index c.seek-slot.result c.seek-slot.ensures.sees c.seek-slot.ensures.slot

  -- the place that was found
  abbrev place : SlotPlace
  place = place_at q₁ c.args.spot c.seek-slot.ensures.on c.args.index c.seek-slot.result covers is

  there : IsPlaceIn q₁ place × (place.first ≤ c.args.index) × (c.args.index ≤ place.last)
  there = placed q₁ c.args.spot c.seek-slot.ensures.on c.args.index c.seek-slot.result covers is

  column : c.slots.result + c.seek-slot.result ≡ slot_column (slots_in q₁ (here q₁)) c.seek-slot.result
  column = column_of_slot q₁ (row_here q₁ c.args.spot) place c.slots.result c.seek-slot.ensures.on c.slots.ensures

  -- where the node below begins and ends
  ends : ((here q₂).extent.first ≡ place.first) × ((here q₂).extent.last ≡ place.last)
  ends =
      child_ends q₁ q₂ (row_here q₁ c.args.spot) place (c.slots.result + c.seek-slot.result) c.load_slot-name.result c.seek-slot.ensures.on there.0 column c.requires.inner c.load_slot-name.ensures.told

pub returns-clause-on : goal.returns-clause-on
returns-clause-on g c =
    let at = (goal.at.returns-clause-on g c).After-load_slot-name in
    let both = ends g at in
    child_on (q₁ g at) (q₂ g at) (row_here (q₁ g at) c.args.spot) (place g at) (c.slots.result + c.seek-slot.result) c.load_slot-name.result c.seek-slot.ensures.on (there g at).0 (column g at) c.requires.inner c.load_slot-name.ensures.told
    (row_here (q₂ g at) c.spot_named.result) (record { number = c.spot_named.ensures.number; base_is = c.spot_named.ensures.base; kind = c.spot_named.ensures.kind; width_is = c.spot_named.ensures.width; min_is = both.0; max_is = both.1 })

pub returns-clause-covers : goal.returns-clause-covers
returns-clause-covers g c =
    let at = (goal.at.returns-clause-covers g c).After-load_slot-name in
    let both = ends g at in
    let first = both.0 in let last = both.1 in let from = (there g at).1 in let to = (there g at).2 in
    (omega arith, omega arith)

pub returns-clause-level : goal.returns-clause-level
returns-clause-level g c =
    let q = part_of c.args.pass.now in let q₁ = part_of c.seek-slot.new.pass in let q₂ = part_of c.load_slot-name.new.pass in
    let told : LoadedChild (column_at (kind_width q₁.shape.kind) c.args.spot.at.number (c.slots.result + c.seek-slot.result)) c.load_slot-name.result q₁ q₂ =
    c.load_slot-name.ensures.told.child (inner_level q₁ (row_here q₁ c.args.spot) c.seek-slot.ensures.on c.requires.inner) in
    told.level ∙ ap (λ (x : Held). x.extent.level) (here_more q q₁ c.seek-slot.ensures.sees)

pub returns-clause-since : goal.returns-clause-since
returns-clause-since g c =
    let q = part_of c.args.pass.now in let q₁ = part_of c.seek-slot.new.pass in let q₂ = part_of c.load_slot-name.new.pass in
    let told : LoadedChild (column_at (kind_width q₁.shape.kind) c.args.spot.at.number (c.slots.result + c.seek-slot.result)) c.load_slot-name.result q₁ q₂ =
    c.load_slot-name.ensures.told.child (inner_level q₁ (row_here q₁ c.args.spot) c.seek-slot.ensures.on c.requires.inner) in
    told.comes.since_is ∙ ap (λ (x : Held). x.since) (here_more q q₁ c.seek-slot.ensures.sees)

pub returns-clause-steps : goal.returns-clause-steps
returns-clause-steps g c =
    let q = part_of c.args.pass.now in let q₁ = part_of c.seek-slot.new.pass in let q₂ = part_of c.load_slot-name.new.pass in
    let told : LoadedChild (column_at (kind_width q₁.shape.kind) c.args.spot.at.number (c.slots.result + c.seek-slot.result)) c.load_slot-name.result q₁ q₂ =
    c.load_slot-name.ensures.told.child (inner_level q₁ (row_here q₁ c.args.spot) c.seek-slot.ensures.on c.requires.inner) in
    let level = told.level ∙ ap (λ (x : Held). x.extent.level) (here_more q q₁ c.seek-slot.ensures.sees) in
    let goes = goes_on q q₁ q₂ (goes_sees _ _ c.seek-slot.ensures.sees) (goes_down _ _ _ _ told) in
    let wide = ap lines_touched c.requires.on.wide in
    let sought = c.seek-slot.ensures.steps in let last = c.load_slot-name.ensures.steps in
    one_down (row_steps q₂) (row_steps q) (here q₂).extent.level (here q).extent.level c.args.steps.now c.load_slot-name.new.steps level (row_steps_kept q q₂ goes) (omega arith)
