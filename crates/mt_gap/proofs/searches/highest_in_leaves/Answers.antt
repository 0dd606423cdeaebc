use Rattle.mt_gap.proofs.Prelude.{◌≡◌, sym, ap, ◌∙◌, subst, ◌+◌, slice_index_or, flat_map, highest_in, Rooted, child_hole, children_in, picked}
use Rattle.mt_gap.proofs.ChildLists.{no_child}
use Rattle.mt_gap.proofs.LevelLoops.{FoundHigh, tree_loaded, loaded_next, high_one}
use Rattle.mt_gap.proofs.searches.highest_in_leaves.Given.{Over}
use Rattle.mt_gap.proofs.searches.highest_in_leaves.Goals.{After-highest_in_leaf}
use Rattle.mt_gap.proofs.searches.highest_in_leaves.Goals as goal

-- the place in this leaf, in the tree as it was
place_is : (g : Over) (c : After-highest_in_leaf g) → let w = c.args.window in c.highest_in_leaf.result ≡ picked (highest_in w.size) w (flat_map child_hole (children_in (g.R.Rows.sheet c.args.rows.now).tree.table (slice_index_or c.args.leaves.now c.loop-leaf.leaf-index no_child).span))
place_is g c =
    let w = c.args.window in
    c.highest_in_leaf.ensures.place ∙ ap (λ (r : Rooted). picked (highest_in w.size) w (flat_map child_hole (children_in r.table (slice_index_or c.args.leaves.now c.loop-leaf.leaf-index no_child).span)))
    (tree_loaded (g.R.Rows.sheet c.args.rows.now) (g.R.Rows.sheet c.loop-leaf.rows) c.args.steps.now c.loop-leaf.steps c.loop-leaf.leaf-index c.loop-leaf.invariant.0)

pub loop-leaf-preserved : goal.loop-leaf-preserved
loop-leaf-preserved g c =
    let s = g.R.Rows.sheet c.args.rows.now in let t = g.R.Rows.sheet c.loop-leaf.rows in
    let w = c.args.window in
    let done = c.loop-leaf.invariant in
    let place = place_is g (goal.at.loop-leaf-preserved g c).After-highest_in_leaf in (
      loaded_next s t (g.R.Rows.sheet c.highest_in_leaf.new.rows) c.args.steps.now c.loop-leaf.steps c.tick.new.self c.loop-leaf.leaf-index done.0 c.tick.ensures c.highest_in_leaf.ensures.reads,
      subst (FoundHigh w s.tree.table c.args.leaves.now (c.loop-leaf.leaf-index + 1)) (sym c.or-found.ensures)
          (high_one w s.tree.table c.args.leaves.now c.loop-leaf.leaf-index no_child c.loop-leaf-test.true c.loop-leaf.found c.highest_in_leaf.result done.1 place),
    )
