use Rattle.mt_engine.proofs.Prelude.{◌+◌, ◌≤◌, ◌∙◌, ℕ, ap, sym, subst, arith, IfSome, greatest, map_by, Rooted, IsHandleOf, handle_in, nearest_from, range_at, same_tree}
use Rattle.mt_engine.proofs.LeafWalks.{found_after, none_after, way_if}
use Rattle.mt_engine.proofs.Walking.{ends_within}
use Rattle.mt_engine.proofs.leaf_steps.range_in_next.Goals as goal

pub returns-then-here-top_of-clause-range : goal.returns-then-here-top_of-clause-range
returns-then-here-top_of-clause-range g c = none_after (g.R.Rows.sheet c.args.rows.now).tree c.requires.tree.0 c.requires.tree.1 c.args.here.now (c.requires.ends ∙ (c.if-here-top_of.true ∙ c.top_of.ensures))

pub first_of_next-first-requires-clause-more : goal.first_of_next-first-requires-clause-more
first_of_next-first-requires-clause-more g c =
    let t = (g.R.Rows.sheet c.args.rows.now).tree in
    omega (arith, ends_within t c.requires.tree.0 c.args.here.now c.requires.tree.1 c.requires.here, c.requires.ends, c.if-here-top_of.false, c.top_of.ensures)

-- the first slot is one of the tree

pub range_here-requires-clause-here : goal.range_here-requires-clause-here
range_here-requires-clause-here g c =
    let s = g.R.Rows.sheet c.args.rows.now in
    let low : c.args.here.now.leaf.max + 1 ≤ greatest s.tree.table.width = omega (arith, ends_within s.tree c.requires.tree.0 c.args.here.now c.requires.tree.1 c.requires.here, c.requires.ends, c.if-here-top_of.false, c.top_of.ensures) in
    subst (λ (t : Rooted). IsHandleOf t c.first_of_next-first.result) (sym (same_tree s (g.R.Rows.sheet c.first_of_next-first.new.rows) c.first_of_next-first.ensures.rest))
    (record { some = c.requires.here.some; index = c.args.here.now.leaf.max + 1; within = low; is = c.first_of_next-first.ensures.handle })

pub returns-clause-handle : goal.returns-clause-handle
returns-clause-handle g c =
    subst (λ (t : Rooted). IfSome c.range_here.result (IsHandleOf t)) (same_tree (g.R.Rows.sheet c.args.rows.now) (g.R.Rows.sheet c.first_of_next-first.new.rows) c.first_of_next-first.ensures.rest) c.range_here.ensures.handle

pub returns-clause-way : goal.returns-clause-way
returns-clause-way g c = way_if (g.R.Rows.sheet c.args.rows.now).tree c.first_of_next-first.new.way.items c.first_of_next-first.result.leaf c.range_here.result c.first_of_next-first.ensures.way c.range_here.ensures.leaf

pub returns-clause-range : goal.returns-clause-range
returns-clause-range g c =
    let s = g.R.Rows.sheet c.args.rows.now in
    let s' = g.R.Rows.sheet c.first_of_next-first.new.rows in
    let same = same_tree s s' c.first_of_next-first.ensures.rest in
    let max_low : c.args.here.now.leaf.max + 1 ≤ greatest s.tree.table.width = omega (arith, ends_within s.tree c.requires.tree.0 c.args.here.now c.requires.tree.1 c.requires.here, c.requires.ends, c.if-here-top_of.false, c.top_of.ensures) in
    let low : c.args.here.now.span.last + 1 ≤ greatest s.tree.table.width = omega (arith, max_low, c.requires.ends) in
    let is = c.first_of_next-first.ensures.handle ∙ ap (λ (n : ℕ). handle_in s.tree (n + 1)) (sym c.requires.ends) in
    let nearest = c.range_here.ensures.range (c.args.here.now.span.last + 1) (subst (λ (t : Rooted). c.args.here.now.span.last + 1 ≤ greatest t.table.width) (sym same) low) (is ∙ ap (λ (t : Rooted). handle_in t (c.args.here.now.span.last + 1)) (sym same)) in
    found_after s.tree c.requires.tree.0 c.requires.tree.1 c.args.here.now low (range_at c.range_here.result)
    (nearest ∙ ap (λ (t : Rooted). nearest_from (map_by t) (c.args.here.now.span.last + 1)) same)
