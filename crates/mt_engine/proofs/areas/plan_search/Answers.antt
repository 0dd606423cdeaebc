use Rattle.mt_engine.proofs.Prelude.{Some, None, sym, ◌∙◌, map_by}
use Rattle.mt_engine.proofs.Finding.{is_gapped, start_is, search_tells}
use Rattle.mt_engine.proofs.areas.plan_search.Goals as goal

pub start_of-requires-clause-tree : goal.start_of-requires-clause-tree
start_of-requires-clause-tree g c =
    is_gapped (g.R.Rows.sheet c.args.rows.now).tree c.args.kind c.requires.tree c.args.wanted.size c.args.wanted.min c.args.wanted.max (sym c.is_no_area.ensures ∙ c.if-is_no_area.false)

pub returns-in-Some-clause-plan : goal.returns-in-Some-clause-plan
returns-in-Some-clause-plan g c =
    let t = (g.R.Rows.sheet c.args.rows.now).tree in
    let good = sym c.is_no_area.ensures ∙ c.if-is_no_area.false in
    let is = start_is t c.args.kind c.requires.tree c.args.wanted.size c.args.wanted.min c.args.wanted.max c.args.sought (Some c.in-Some.start) c.in-Some.ensures.start in
    λ path. search_tells c.args.sought c.args.kind (map_by t) c.args.wanted.size c.args.wanted.min c.args.wanted.max (Some c.in-Some.start) good is

pub returns-in-None-clause-plan : goal.returns-in-None-clause-plan
returns-in-None-clause-plan g c =
    let t = (g.R.Rows.sheet c.args.rows.now).tree in
    let good = sym c.is_no_area.ensures ∙ c.if-is_no_area.false in
    let is = start_is t c.args.kind c.requires.tree c.args.wanted.size c.args.wanted.min c.args.wanted.max c.args.sought None c.in-None.ensures.start in
    λ path. search_tells c.args.sought c.args.kind (map_by t) c.args.wanted.size c.args.wanted.min c.args.wanted.max None good is
