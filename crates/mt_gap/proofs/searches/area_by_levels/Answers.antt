use Rattle.mt_gap.proofs.Prelude.{◌+◌, ◌*◌, ◌≤◌, sym, ap, subst, columns, height_in, reads_more, Kind, greatest, IsTreeOf, Rooted, Sheet, loads_on}
use Rattle.mt_gap.proofs.Readings.{within_steps}
use Rattle.mt_gap.proofs.OneWay.{some_kind, place_within}
use Rattle.mt_gap.proofs.searches.area_by_levels.Goals as goal

pub walk_to-here-requires-clause-tree : goal.walk_to-here-requires-clause-tree
walk_to-here-requires-clause-tree g c =
    let same = ap (λ (r : Sheet). r.tree) c.place_by_levels.ensures.reads.rest in
    subst (λ (t : Rooted). (kind : Kind) × IsTreeOf t kind) (sym same) (some_kind (g.R.Rows.sheet c.args.rows.now).tree c.requires.tree)

pub walk_to-here-requires-clause-index : goal.walk_to-here-requires-clause-index
walk_to-here-requires-clause-index g c =
    let s = g.R.Rows.sheet c.args.rows.now in
    let same = ap (λ (r : Sheet). r.tree) c.place_by_levels.ensures.reads.rest in
    subst (λ (t : Rooted). c.in_ok-start.start ≤ greatest t.table.width) (sym same)
    (place_within c.args.side s.tree c.args.window c.in_ok-start.start c.requires.tree c.requires.size c.in_ok-start.ensures.place)

pub returns-clause-found : goal.returns-clause-found
returns-clause-found g c =
    let s = g.R.Rows.sheet c.args.rows.now in
    let s₁ = g.R.Rows.sheet c.place_by_levels.new.rows in
    let h = height_in s.tree.table s.tree.root in
    let cols = columns s.tree.table.width in
    reads_more (3 * h * cols + 1) (loads_on c.walk_to-here.new.path.items) s s₁ (g.R.Rows.sheet c.walk_to-here.new.rows)
    (within_steps cols (3 * h) c.args.steps.now c.place_by_levels.new.steps s s₁ c.place_by_levels.ensures.steps c.place_by_levels.ensures.reads) c.walk_to-here.ensures.reads
