use Rattle.mt_engine.proofs.Prelude.{◌<◌, ◌≤◌, ◌∙◌, None, Some, ap, sym, subst, arith, length, slice_set, Range, Rooted, RangeWalk, IsHandleOf, WalksFrom, Width, greatest, index_behind, range_at, same_tree, IsWayOrNone}
use Rattle.mt_engine.proofs.Batching.{put_end, put_full, put_long}
use Rattle.mt_engine.proofs.LeafWalks.{ended_walk, first_put, found_next, next_put}
use Rattle.mt_engine.proofs.Walking.{ends_within}
use Rattle.mt_engine.proofs.batches.put_from.Goals as goal

pub loop-i-init : goal.loop-i-init
loop-i-init g c =
    let s = g.R.Rows.sheet c.args.rows.now in
    let put = first_put g.P.RangePlace.shows s c.requires.tree.0 c.requires.tree.1 c.args.walk.now c.args.ranges.now c.requires.walk c.requires.some c.args.first c.requires.first c.requires.found
    c.put_at.new.places (c.put_at.ensures ∙ ap (λ (r : Range). slice_set c.args.ranges.now 0 (g.P.RangePlace.shows r)) c.range_in.ensures) c.new-way.result.items c.new-way.ensures in
    record { size = put_long put.put; put = put }

-- the slot that is found is one of the tree, and the way leads to it

pub range_after-requires-clause-here : goal.range_after-requires-clause-here
range_after-requires-clause-here g c =
    let before = c.loop-i.invariant.put in
    subst (λ (t : Rooted). IsHandleOf t c.loop-i.here) (sym (same_tree (g.R.Rows.sheet c.args.rows.now) (g.R.Rows.sheet c.loop-i.rows) before.put.reads)) before.at

pub range_after-requires-clause-way : goal.range_after-requires-clause-way
range_after-requires-clause-way g c =
    let before = c.loop-i.invariant.put in
    subst (λ (t : Rooted). IsWayOrNone t c.loop-i.way.items c.loop-i.here.leaf) (sym (same_tree (g.R.Rows.sheet c.args.rows.now) (g.R.Rows.sheet c.loop-i.rows) before.put.reads)) before.leads

pub loop-i-preserved : goal.loop-i-preserved
loop-i-preserved g c =
    let s = g.R.Rows.sheet c.args.rows.now in
    let low : c.loop-i.i < length c.args.ranges.now = omega (arith, c.loop-i-test.true, c.loop-i.invariant.size) in
    let put = next_put g.P.RangePlace.shows s c.requires.tree.0 c.requires.tree.1 c.args.walk.now c.args.ranges.now (g.R.Rows.sheet c.loop-i.rows) c.loop-i.here c.loop-i.way.items c.range_after.new.way.items c.loop-i.ranges c.loop-i.i c.loop-i.invariant.put
    low (g.R.Rows.sheet c.range_after.new.rows) c.in-Some.ensures.rest c.in-Some.next c.in-Some.ensures.handle c.in-Some.ensures.way c.in-Some.ensures.range
    c.put_at-in-loop-i.new.places (c.put_at-in-loop-i.ensures ∙ ap (λ (r : Range). slice_set c.loop-i.ranges c.loop-i.i (g.P.RangePlace.shows r)) c.range_in-in-loop-i.ensures) in
    record { size = put_long put.put; put = put }

-- the walk has ended before the last place: what was put is all that it finds

pub returns-in_default-clause-put : goal.returns-in_default-clause-put
returns-in_default-clause-put g c =
    let s = g.R.Rows.sheet c.args.rows.now in
    let before = c.loop-i.invariant.put in
    let low : c.loop-i.i < length c.args.ranges.now = omega (arith, c.loop-i-test.true, c.loop-i.invariant.size) in
    put_end before.put low (found_next g.P.RangePlace.shows s c.requires.tree.0 c.requires.tree.1 c.args.walk.now c.args.ranges.now (g.R.Rows.sheet c.loop-i.rows) c.loop-i.here c.loop-i.way.items c.loop-i.way.items c.loop-i.ranges c.loop-i.i before None c.in_default.ensures.range)

pub returns-in_default-clause-walk : goal.returns-in_default-clause-walk
returns-in_default-clause-walk g c = ended_walk (g.R.Rows.sheet c.args.rows.now).tree c.loop-i.here c.loop-i.invariant.put.at

-- all places are filled

pub walk_after-requires : goal.walk_after-requires
walk_after-requires g c =
    let s = g.R.Rows.sheet c.args.rows.now in
    let before = c.loop-i.invariant.put in
    let width = c.width.ensures ∙ ap (λ (t : Rooted). t.table.width) (same_tree s (g.R.Rows.sheet c.loop-i.rows) before.put.reads) in
    subst (λ (w : Width). c.loop-i.here.span.last ≤ greatest w) (sym width) (ends_within s.tree c.requires.tree.0 c.loop-i.here c.requires.tree.1 before.at)

pub returns-clause-put : goal.returns-clause-put
returns-clause-put g c =
    let s = g.R.Rows.sheet c.args.rows.now in
    let before = c.loop-i.invariant.put in
    let all : length c.args.ranges.now ≤ c.loop-i.i = omega (arith, c.loop-i-test.false, c.loop-i.invariant.size) in
    let width = c.width.ensures ∙ ap (λ (t : Rooted). t.table.width) (same_tree s (g.R.Rows.sheet c.loop-i.rows) before.put.reads) in
    let full = put_full before.put all in
    let many = full.many in
    let long = put_long before.put in
    let end = c.loop-i.auto.i-end in
    record {
      put = full.put;
      many = grind (arith, many, long, end);
      goes = ap (λ (w : RangeWalk). w.next) c.walk_after.ensures ∙ (ap (λ (w : Width). index_behind (greatest w) (range_at (Some c.loop-i.here))) width ∙ full.goes);
    }

pub returns-clause-walk : goal.returns-clause-walk
returns-clause-walk g c =
    let s = g.R.Rows.sheet c.args.rows.now in
    let before = c.loop-i.invariant.put in
    let width = c.width.ensures ∙ ap (λ (t : Rooted). t.table.width) (same_tree s (g.R.Rows.sheet c.loop-i.rows) before.put.reads) in
    let is = c.walk_after.ensures ∙ ap (λ (w : Width). record { next = index_behind (greatest w) (range_at (Some c.loop-i.here)); last = Some c.loop-i.here }) width in
    subst (WalksFrom s.tree) (sym is) before.put.walks
