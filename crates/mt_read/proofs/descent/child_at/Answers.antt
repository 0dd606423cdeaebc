use Rattle.mt_read.proofs.Prelude.{arith, ◌≡◌, ◌∙◌, ◌+◌, Option, refl, ap, subst, sym, IsSome, kind_width, RowKind, Held, PassPart, column_at, LoadedChild, part_of}
use Rattle.mt_read.proofs.Descending.{slot_is, slot_fits, column_of_slot, inner_level, child_on, goes_sees, goes_down, goes_on, here_more, level_down}
use Rattle.mt_read.proofs.descent.child_at.Goals as goal

pub overflow_add-column : goal.overflow_add-column
overflow_add-column g c =
    let few = slot_fits (part_of c.find_by-place.new.pass) c.args.row.now c.find_by-place.result c.slots.result c.find_by-place.ensures.on c.find_by-place.ensures.place c.slots.ensures in
    omega arith

pub load_slot-name-requires-clause-slot : goal.load_slot-name-requires-clause-slot
load_slot-name-requires-clause-slot g c = slot_is (part_of c.find_by-place.new.pass) c.args.row.now c.find_by-place.result c.slots.result c.find_by-place.ensures.on c.find_by-place.ensures.place c.slots.ensures

pub row_named-requires : goal.row_named-requires
row_named-requires g c =
    let told = c.load_slot-name.ensures.told.child (inner_level (part_of c.find_by-place.new.pass) c.args.row.now c.find_by-place.ensures.on c.requires.inner) in
    record { name = subst (λ (o : Option RowKind). IsSome o) (sym told.comes.named) refl }

pub returns-clause-goes : goal.returns-clause-goes
returns-clause-goes g c =
    let q = part_of c.find_by-place.new.pass in
    let told : LoadedChild (column_at (kind_width q.shape.kind) c.args.row.now.at.number (c.slots.result + c.find_by-place.result.slot)) c.load_slot-name.result q (part_of c.load_slot-name.new.pass) =
    c.load_slot-name.ensures.told.child (inner_level q c.args.row.now c.find_by-place.ensures.on c.requires.inner) in
    goes_on _ _ _ (goes_sees _ _ c.find_by-place.ensures.sees) (goes_down _ _ _ _ told)

pub returns-clause-on : goal.returns-clause-on
returns-clause-on g c =
    let q = part_of c.find_by-place.new.pass in
    let column = column_of_slot q c.args.row.now c.find_by-place.result c.slots.result c.find_by-place.ensures.on c.slots.ensures in
    child_on q (part_of c.load_slot-name.new.pass) c.args.row.now c.find_by-place.result _ c.load_slot-name.result c.find_by-place.ensures.on c.find_by-place.ensures.place column c.requires.inner c.load_slot-name.ensures.told
    c.row_named.result (record { number = c.row_named.ensures.number; base_is = c.row_named.ensures.base; kind = c.row_named.ensures.kind; width_is = c.row_named.ensures.width; min_is = c.row_named.ensures.min; max_is = c.row_named.ensures.max })

pub returns-clause-steps : goal.returns-clause-steps
returns-clause-steps g c =
    let q = part_of c.args.pass.now in let q₁ = part_of c.find_by-place.new.pass in let q₂ = part_of c.load_slot-name.new.pass in
    let sees = c.find_by-place.ensures.sees in
    let told : LoadedChild (column_at (kind_width q₁.shape.kind) c.args.row.now.at.number (c.slots.result + c.find_by-place.result.slot)) c.load_slot-name.result q₁ q₂ =
    c.load_slot-name.ensures.told.child (inner_level q₁ c.args.row.now c.find_by-place.ensures.on c.requires.inner) in
    let kind : q₂.shape.kind ≡ q.shape.kind = ap (λ (z : PassPart). z.shape.kind) told.reads.is ∙ ap (λ (z : PassPart). z.shape.kind) sees.is in
    level_down q q₂ _ _ _ (inner_level q c.args.row.now c.requires.on c.requires.inner) (told.level ∙ ap (λ (x : Held). x.extent.level) (here_more q q₁ sees)) kind c.find_by-place.ensures.pivots c.load_slot-name.ensures.steps
