use Rattle.mt_gap.proofs.Prelude.{◌+◌, ◌≤◌, length, sym, ap, ◌∙◌, subst, arith, reads_more, columns, Kind, greatest, IsTreeOf, Rooted, Sheet, handle_in, path_in, EntersLeaf, last_step, loads_at}
use Rattle.mt_gap.proofs.OneWay.{some_kind, start_within, enters_leaf, is_area}
use Rattle.mt_gap.proofs.searches.area_in_leaf.Goals as goal

pub end_walk-here-requires-clause-tree : goal.end_walk-here-requires-clause-tree
end_walk-here-requires-clause-tree g c =
    let s = g.R.Rows.sheet c.args.rows.now in
    let same = ap (λ (r : Sheet). r.tree) c.place_in_leaf.ensures.reads.rest in
    subst (λ (t : Rooted). (kind : Kind) × IsTreeOf t kind) (sym same) (some_kind s.tree c.requires.tree)

pub end_walk-here-requires-clause-index : goal.end_walk-here-requires-clause-index
end_walk-here-requires-clause-index g c =
    let s = g.R.Rows.sheet c.args.rows.now in
    let same = ap (λ (r : Sheet). r.tree) c.place_in_leaf.ensures.reads.rest in
    subst (λ (t : Rooted). c.in_ok-start.start ≤ greatest t.table.width) (sym same)
    (start_within c.args.side s.tree c.args.window c.args.path.now.items c.args.leaf c.requires.leaf c.requires.size c.in_ok-start.start c.in_ok-start.ensures.place)

pub end_walk-here-requires-clause-way : goal.end_walk-here-requires-clause-way
end_walk-here-requires-clause-way g c =
    let s = g.R.Rows.sheet c.args.rows.now in
    let same = ap (λ (r : Sheet). r.tree) c.place_in_leaf.ensures.reads.rest in
    subst (λ (t : Rooted). EntersLeaf t c.in_ok-start.start c.args.path.now.items c.args.leaf) (sym same) (enters_leaf c.args.side s.tree c.args.window c.args.path.now.items c.args.leaf c.requires.leaf c.requires.size c.in_ok-start.start c.in_ok-start.ensures.place)

pub returns-clause-way : goal.returns-clause-way
returns-clause-way g c =
    let s = g.R.Rows.sheet c.args.rows.now in
    let same = ap (λ (r : Sheet). r.tree) c.place_in_leaf.ensures.reads.rest in
    is_area c.args.side s.tree c.args.window c.args.path.now.items c.args.leaf c.requires.leaf c.requires.size c.in_ok-start.start c.in_ok-start.ensures.place c.end_walk-here.new.path.items c.end_walk-here.result
    (c.end_walk-here.ensures.path ∙ ap (λ (t : Rooted). path_in t.table t.root c.in_ok-start.start) same)
    (c.end_walk-here.ensures.handle ∙ ap (λ (t : Rooted). handle_in t c.in_ok-start.start) same)

pub returns-clause-deep : goal.returns-clause-deep
returns-clause-deep g c =
    let s = g.R.Rows.sheet c.args.rows.now in
    let same = ap (λ (r : Sheet). r.tree) c.place_in_leaf.ensures.reads.rest in
    let low = (enters_leaf c.args.side s.tree c.args.window c.args.path.now.items c.args.leaf c.requires.leaf c.requires.size c.in_ok-start.start c.in_ok-start.ensures.place).low in
    let long = ap length (c.end_walk-here.ensures.path ∙ ap (λ (t : Rooted). path_in t.table t.root c.in_ok-start.start) same) in
    omega (arith, low, long)

pub returns-clause-found : goal.returns-clause-found
returns-clause-found g c =
    let s = g.R.Rows.sheet c.args.rows.now in
    reads_more (columns s.tree.table.width) (loads_at (last_step c.end_walk-here.new.path.items) + 1) s (g.R.Rows.sheet c.place_in_leaf.new.rows) (g.R.Rows.sheet c.end_walk-here.new.rows) c.place_in_leaf.ensures.reads c.end_walk-here.ensures.reads
