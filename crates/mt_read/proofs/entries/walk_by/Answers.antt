use Rattle.mt_read.proofs.Prelude.{rules, arith, ◌≡◌, ◌≤◌, ◌∙◌, refl, sym, ap, subst, greatest, greatest_of, kind_width, PassPart, Shape, inner_kind, here, identity_of, part_of, row_here}
use Rattle.mt_read.proofs.Finding.{shape_is}
use Rattle.mt_read.proofs.Descending.{root_on, goes_root, goes_on}
use Rattle.mt_read.proofs.Spots.{row_steps_kept, steps_root, touches_few}
use Rattle.mt_read.proofs.entries.walk_by.Goals as goal

pub descend-requires-clause-on : goal.descend-requires-clause-on
descend-requires-clause-on g c =
    let t = identity_of c.args.table.now in
    let q = part_of c.args.pass.now in let q' = part_of c.load_root-name.new.pass in
    let told = c.load_root-name.ensures.told.row (search rules) in
    let wide : c.width_with.result ≡ kind_width q'.shape.kind = c.width_with.ensures (kind_width t.shape.kind) c.requires.columns ∙ ap (λ (s : Shape). kind_width s.kind) (sym (shape_is t c.load_root-name.new.pass c.load_root-name.ensures.stepped.of)) in
    root_on q q' c.load_root-name.result c.width_with.result (greatest c.width_with.result) (row_here q' c.spot_named-root.result) told wide refl
    (record { number = c.spot_named-root.ensures.number; base_is = c.spot_named-root.ensures.base; kind = c.spot_named-root.ensures.kind; width_is = c.spot_named-root.ensures.width; min_is = told.first; max_is = told.last ∙ ap greatest (sym wide) })

pub descend-requires-clause-covers : goal.descend-requires-clause-covers
descend-requires-clause-covers g c =
    let told = c.load_root-name.ensures.told.row (search rules) in
    let first = told.first in let last = told.last in
    let low = subst (λ (z : PassPart). c.args.index ≤ greatest_of z.shape.kind) (sym told.reads.is) c.requires.index in
    (omega arith, omega arith)

pub returns-clause-goes : goal.returns-clause-goes
returns-clause-goes g c = goes_on _ _ _ (goes_root _ _ _ (c.load_root-name.ensures.told.row (search rules))) c.descend.ensures.goes

pub returns-then-name-eq0-clause-steps : goal.returns-then-name-eq0-clause-steps
returns-then-name-eq0-clause-steps g c =
    let few = touches_few (kind_width (part_of c.load_root-name.new.pass).shape.kind) in let first = c.load_root-name.ensures.steps in
    omega arith

pub returns-clause-steps : goal.returns-clause-steps
returns-clause-steps g c =
    let q' = part_of c.load_root-name.new.pass in
    let told = c.load_root-name.ensures.told.row (search rules) in
    let most = steps_root (kind_width q'.shape.kind) (inner_kind q'.shape.kind) (here q').extent.level told.level told.low in
    let same = row_steps_kept q' (part_of c.descend.new.pass) c.descend.ensures.goes in
    let first = c.load_root-name.ensures.steps in let rest = c.descend.ensures.steps in
    omega arith
