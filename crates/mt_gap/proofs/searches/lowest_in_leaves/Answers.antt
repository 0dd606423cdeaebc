use Rattle.mt_gap.proofs.Prelude.{◌+◌, length, sym, ap, ◌∙◌, arith, slice_index_or, flat_map, lowest_in, Rooted, child_hole, children_in, picked}
use Rattle.mt_gap.proofs.ChildLists.{no_child}
use Rattle.mt_gap.proofs.LevelLoops.{tree_loaded, loaded_next, loaded_few, low_found, low_not_found}
use Rattle.mt_gap.proofs.searches.lowest_in_leaves.Goals as goal

pub returns-then-is_some-clause-place : goal.returns-then-is_some-clause-place
returns-then-is_some-clause-place g c =
    let s = g.R.Rows.sheet c.args.rows.now in
    let t = g.R.Rows.sheet c.loop-leaf.rows in
    let w = c.args.window in
    let done = c.loop-leaf.invariant in
    let same = tree_loaded s t c.args.steps.now c.loop-leaf.steps c.loop-leaf.leaf-index done.0 in
    let leaf = (slice_index_or c.args.leaves.now c.loop-leaf.leaf-index no_child).span in
    low_found w s.tree.table c.args.leaves.now c.loop-leaf.leaf-index no_child c.loop-leaf-test.true c.lowest_in_leaf-found.result done.1
    (c.lowest_in_leaf-found.ensures.place ∙ ap (λ (r : Rooted). picked lowest_in w (flat_map child_hole (children_in r.table leaf))) same) (sym c.is_some.ensures ∙ c.if-is_some.true)

pub returns-then-is_some-clause-loaded : goal.returns-then-is_some-clause-loaded
returns-then-is_some-clause-loaded g c =
    let s = g.R.Rows.sheet c.args.rows.now in
    let u = g.R.Rows.sheet c.lowest_in_leaf-found.new.rows in
    loaded_few s u c.args.steps.now c.tick.new.self (c.loop-leaf.leaf-index + 1) (length c.args.leaves.now)
    (loaded_next s (g.R.Rows.sheet c.loop-leaf.rows) u c.args.steps.now c.loop-leaf.steps c.tick.new.self c.loop-leaf.leaf-index c.loop-leaf.invariant.0 c.tick.ensures c.lowest_in_leaf-found.ensures.reads) (let within = c.loop-leaf-test.true in omega arith)

pub loop-leaf-preserved : goal.loop-leaf-preserved
loop-leaf-preserved g c =
    let s = g.R.Rows.sheet c.args.rows.now in
    let t = g.R.Rows.sheet c.loop-leaf.rows in
    let w = c.args.window in
    let done = c.loop-leaf.invariant in
    let same = tree_loaded s t c.args.steps.now c.loop-leaf.steps c.loop-leaf.leaf-index done.0 in
    let leaf = (slice_index_or c.args.leaves.now c.loop-leaf.leaf-index no_child).span in (
      loaded_next s t (g.R.Rows.sheet c.lowest_in_leaf-found.new.rows) c.args.steps.now c.loop-leaf.steps c.tick.new.self c.loop-leaf.leaf-index done.0 c.tick.ensures c.lowest_in_leaf-found.ensures.reads,
      low_not_found w s.tree.table c.args.leaves.now c.loop-leaf.leaf-index no_child c.loop-leaf-test.true c.lowest_in_leaf-found.result done.1
          (c.lowest_in_leaf-found.ensures.place ∙ ap (λ (r : Rooted). picked lowest_in w (flat_map child_hole (children_in r.table leaf))) same) (sym c.is_some.ensures ∙ c.if-is_some.false),
    )
