use Rattle.mt_read.proofs.Prelude.{rules, arith, ◌≡◌, ◌∙◌, sym, ap, kind_width, Shape, here, identity_of, part_of}
use Rattle.mt_read.proofs.Finding.{shape_is}
use Rattle.mt_read.proofs.Descending.{root_on, root_under, goes_root, goes_on}
use Rattle.mt_read.proofs.descent.walk_by.Goals as goal

pub descend-requires-clause-on : goal.descend-requires-clause-on
descend-requires-clause-on g c =
    let t = identity_of c.args.table.now in
    let q = part_of c.args.pass.now in let q' = part_of c.load_root-name.new.pass in
    let told = c.load_root-name.ensures.told.row (search rules) in
    let wide : c.width_with-width.result ≡ kind_width q'.shape.kind = c.width_with-width.ensures (kind_width t.shape.kind) c.requires.columns ∙ ap (λ (s : Shape). kind_width s.kind) (sym (shape_is t c.load_root-name.new.pass c.load_root-name.ensures.stepped.of)) in
    root_on q q' c.load_root-name.result c.width_with-width.result c.top.result c.row_named-root.result told wide c.top.ensures
    (record { number = c.row_named-root.ensures.number; base_is = c.row_named-root.ensures.base; kind = c.row_named-root.ensures.kind; width_is = c.row_named-root.ensures.width; min_is = c.row_named-root.ensures.min; max_is = c.row_named-root.ensures.max })

pub returns-clause-under : goal.returns-clause-under
returns-clause-under g c =
    let q = part_of c.args.pass.now in
    let told = c.load_root-name.ensures.told.row (search rules) in
    λ at. c.descend.ensures.goes.under (here q) (root_under q (part_of c.load_root-name.new.pass) _ told at)

pub returns-clause-goes : goal.returns-clause-goes
returns-clause-goes g c = goes_on _ _ _ (goes_root _ _ _ (c.load_root-name.ensures.told.row (search rules))) c.descend.ensures.goes

pub returns-clause-steps : goal.returns-clause-steps
returns-clause-steps g c =
    let told = c.load_root-name.ensures.told.row (search rules) in
    let most = told.level in let first = c.load_root-name.ensures.steps in let rest = c.descend.ensures.steps in
    omega arith
