use Rattle.mt_engine.proofs.Prelude.{arith, Some, sym, ◌∙◌}
use Rattle.mt_engine.proofs.Finding.{good_area, is_gapped, start_is, place_fits, place_plan}
use Rattle.mt_engine.proofs.areas.plan_allocation.Goals as goal

pub area_of-requires-clause-tree : goal.area_of-requires-clause-tree
area_of-requires-clause-tree g c =
    let good = sym c.is_bad_area.ensures ∙ c.if-is_bad_area.false in
    is_gapped (g.R.Rows.sheet c.args.rows.now).tree c.args.kind c.requires.tree c.args.wanted.size c.args.wanted.min c.args.wanted.max (good_area c.args.kind c.args.wanted.size c.args.wanted.min c.args.wanted.max c.args.entry good).0

pub overflow_add-edit : goal.overflow_add-edit
overflow_add-edit g c =
    let t = (g.R.Rows.sheet c.args.rows.now).tree in
    let good = sym c.is_bad_area.ensures ∙ c.if-is_bad_area.false in
    let area = (good_area c.args.kind c.args.wanted.size c.args.wanted.min c.args.wanted.max c.args.entry good).0 in
    let is = start_is t c.args.kind c.requires.tree c.args.wanted.size c.args.wanted.min c.args.wanted.max c.args.sought (Some c.in-Some.area.start) c.in-Some.ensures.start in
    let fits = place_fits t c.args.kind c.requires.tree c.args.sought c.args.wanted.size c.args.wanted.min c.args.wanted.max area c.in-Some.area.start is in
    omega (arith, fits)

pub returns-clause-plan : goal.returns-clause-plan
returns-clause-plan g c =
    let t = (g.R.Rows.sheet c.args.rows.now).tree in
    let good = sym c.is_bad_area.ensures ∙ c.if-is_bad_area.false in
    let area = (good_area c.args.kind c.args.wanted.size c.args.wanted.min c.args.wanted.max c.args.entry good).0 in
    let is = start_is t c.args.kind c.requires.tree c.args.wanted.size c.args.wanted.min c.args.wanted.max c.args.sought (Some c.in-Some.area.start) c.in-Some.ensures.start in
    let found = c.in-Some.ensures.way in
    place_plan t c.args.kind c.requires.tree c.args.sought c.args.wanted.size c.args.wanted.min c.args.wanted.max area c.in-Some.area.start is c.args.entry good found.way (record { none = found.none; some = found.some }) c.store_by-by.ensures
