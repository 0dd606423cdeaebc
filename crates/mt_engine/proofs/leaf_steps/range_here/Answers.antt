use Rattle.mt_engine.proofs.Prelude.{◌+◌, refl, ap, arith, PathStep, no_reads, reads_up, inner_behind}
use Rattle.mt_engine.proofs.LeafEnds.{hole_ends}
use Rattle.mt_engine.proofs.SlotQueries.{first_behind, first_here, first_none}
use Rattle.mt_engine.proofs.leaf_steps.range_here.Goals as goal

-- the slot itself holds a range

pub returns-then-here-ne0-clause-handle : goal.returns-then-here-ne0-clause-handle
returns-then-here-ne0-clause-handle g c = c.requires.here

pub returns-then-here-ne0-clause-leaf : goal.returns-then-here-ne0-clause-leaf
returns-then-here-ne0-clause-leaf g c = refl

pub returns-then-here-ne0-clause-range : goal.returns-then-here-ne0-clause-range
returns-then-here-ne0-clause-range g c = λ index within is. first_here _ c.requires.tree index _ (record { some = c.requires.here.some; within = within; is = is }) c.if-here-ne0.true

pub returns-then-here-ne0-clause-reads : goal.returns-then-here-ne0-clause-reads
returns-then-here-ne0-clause-reads g c = (let s = g.R.Rows.sheet c.args.rows.now in reads_up 0 2 s s (omega arith) (no_reads s))

-- a hole that ends its leaf ends at the greatest index

pub returns-then-here-clause-range : goal.returns-then-here-clause-range
returns-then-here-clause-range g c = λ index within is.
    let t = (g.R.Rows.sheet c.args.rows.now).tree in
    first_none t c.requires.tree index c.args.here (record { some = c.requires.here.some; within = within; is = is }) c.if-here-ne0.false
    (hole_ends t c.requires.tree.0 c.args.here c.requires.tree.1 c.requires.here c.if-here-ne0.false c.if-here.true)

pub returns-then-here-clause-reads : goal.returns-then-here-clause-reads
returns-then-here-clause-reads g c = (let s = g.R.Rows.sheet c.args.rows.now in reads_up 0 2 s s (omega arith) (no_reads s))

-- behind any other hole stands a range of the same leaf

pub returns-clause-handle : goal.returns-clause-handle
returns-clause-handle g c =
    let t = (g.R.Rows.sheet c.args.rows.now).tree in
    let low = (inner_behind t c.requires.tree.0 c.requires.tree.1 c.args.here c.requires.here c.if-here.false).0 in
    record { some = c.requires.here.some; index = c.args.here.span.last + 1; within = low; is = c.next_in_leaf.ensures.handle }

pub returns-clause-leaf : goal.returns-clause-leaf
returns-clause-leaf g c = ap (λ (p : PathStep). p.max) c.next_in_leaf.ensures.leaf

pub returns-clause-range : goal.returns-clause-range
returns-clause-range g c = λ index within is.
    let t = (g.R.Rows.sheet c.args.rows.now).tree in
    let low = (inner_behind t c.requires.tree.0 c.requires.tree.1 c.args.here c.requires.here c.if-here.false).0 in
    first_behind t c.requires.tree index c.args.here (record { some = c.requires.here.some; within = within; is = is }) c.next_in_leaf.result c.if-here-ne0.false (λ same. omega (arith, low, same)) c.next_in_leaf.ensures.handle
