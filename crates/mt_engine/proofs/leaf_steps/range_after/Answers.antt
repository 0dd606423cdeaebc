use Rattle.mt_engine.proofs.Prelude.{◌+◌, ◌≤◌, ◌∙◌, ap, sym, subst, IfSome, greatest, map_by, PathStep, Rooted, IsHandleOf, handle_in, nearest_from, range_at, reads_more, same_tree, inner_behind}
use Rattle.mt_engine.proofs.LeafWalks.{found_after, way_if, way_stays}
use Rattle.mt_engine.proofs.leaf_steps.range_after.Goals as goal

-- in the next leaf

pub returns-then-here-clause-near : goal.returns-then-here-clause-near
returns-then-here-clause-near g c = λ other. absurd (other c.if-here.true)

pub returns-in_err-far-clause-near : goal.returns-in_err-far-clause-near
returns-in_err-far-clause-near g c = λ other. absurd (other c.if-here.true)

pub returns-in_err-far-clause-range : goal.returns-in_err-far-clause-range
returns-in_err-far-clause-range g c = ap range_at c.from_residual.ensures ∙ c.in_err-far.ensures.range

-- in the same leaf

pub range_here-requires-clause-here : goal.range_here-requires-clause-here
range_here-requires-clause-here g c =
    let s = g.R.Rows.sheet c.args.rows.now in
    let low = (inner_behind s.tree c.requires.tree.0 c.requires.tree.1 c.args.here.now c.requires.here c.if-here.false).0 in
    subst (λ (t : Rooted). IsHandleOf t c.next_in_leaf-next.result) (sym (same_tree s (g.R.Rows.sheet c.next_in_leaf-next.new.rows) c.next_in_leaf-next.ensures.reads.rest))
    (record { some = c.requires.here.some; index = c.args.here.now.span.last + 1; within = low; is = c.next_in_leaf-next.ensures.handle })

pub returns-clause-handle : goal.returns-clause-handle
returns-clause-handle g c =
    subst (λ (t : Rooted). IfSome c.range_here.result (IsHandleOf t)) (same_tree (g.R.Rows.sheet c.args.rows.now) (g.R.Rows.sheet c.next_in_leaf-next.new.rows) c.next_in_leaf-next.ensures.reads.rest) c.range_here.ensures.handle

pub returns-clause-way : goal.returns-clause-way
returns-clause-way g c =
    let t = (g.R.Rows.sheet c.args.rows.now).tree in
    let next = c.next_in_leaf-next in
    way_if t c.args.way.now.items next.result.leaf c.range_here.result
    (way_stays t c.args.way.now.items c.args.here.now.leaf next.result.leaf c.requires.way (ap (λ (p : PathStep). p.max) next.ensures.leaf)) c.range_here.ensures.leaf

pub returns-clause-range : goal.returns-clause-range
returns-clause-range g c =
    let s = g.R.Rows.sheet c.args.rows.now in
    let next = c.next_in_leaf-next in
    let same = same_tree s (g.R.Rows.sheet next.new.rows) next.ensures.reads.rest in
    let index = c.args.here.now.span.last + 1 in
    let low = (inner_behind s.tree c.requires.tree.0 c.requires.tree.1 c.args.here.now c.requires.here c.if-here.false).0 in
    let nearest = c.range_here.ensures.range index (subst (λ (t : Rooted). index ≤ greatest t.table.width) (sym same) low) (next.ensures.handle ∙ ap (λ (t : Rooted). handle_in t index) (sym same)) in
    found_after s.tree c.requires.tree.0 c.requires.tree.1 c.args.here.now low (range_at c.range_here.result) (nearest ∙ ap (λ (t : Rooted). nearest_from (map_by t) index) same)

pub returns-clause-near : goal.returns-clause-near
returns-clause-near g c = λ other. reads_more 2 2 (g.R.Rows.sheet c.args.rows.now) (g.R.Rows.sheet c.next_in_leaf-next.new.rows) (g.R.Rows.sheet c.range_here.new.rows) c.next_in_leaf-next.ensures.reads c.range_here.ensures.reads
