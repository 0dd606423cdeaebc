use Rattle.mt_engine.proofs.Prelude.{◌<◌, ◌∙◌, arith, eqb-true, eqb-false, ap, sym, subst, length, PutSteps, Rooted, IsHandleOf, WalksFrom, greatest, map_by, found_from, same_tree, steps_by}
use Rattle.mt_engine.proofs.Batching.{put_begin, put_end, put_full}
use Rattle.mt_engine.proofs.batches.step_many.Goals as goal

-- there is no place

pub returns-then-is_empty-clause-put : goal.returns-then-is_empty-clause-put
returns-then-is_empty-clause-put g c =
    put_full (put_begin g.P.RangePlace.shows (g.R.Rows.sheet c.args.rows.now) c.args.walk.now c.args.ranges.now c.requires.walk) (omega (arith, eqb-true (length c.args.ranges.now) 0 (sym c.is_empty.ensures ∙ c.if-is_empty.true)))

-- the walk has ended

pub returns-in_default-clause-put : goal.returns-in_default-clause-put
returns-in_default-clause-put g c =
    let some : 0 < length c.args.ranges.now = omega (arith, eqb-false (length c.args.ranges.now) 0 (sym c.is_empty.ensures ∙ c.if-is_empty.false)) in
    put_end (put_begin g.P.RangePlace.shows (g.R.Rows.sheet c.args.rows.now) c.args.walk.now c.args.ranges.now c.requires.walk) some c.in_default.ensures.range

-- the first range was found, and the others are found behind it

pub put_from-requires-clause-walk : goal.put_from-requires-clause-walk
put_from-requires-clause-walk g c =
    subst (λ (t : Rooted). WalksFrom t c.args.walk.now) (sym (same_tree (g.R.Rows.sheet c.args.rows.now) (g.R.Rows.sheet c.slot_found.new.rows) c.in-Some.ensures.rest)) c.requires.walk

pub put_from-requires-clause-first : goal.put_from-requires-clause-first
put_from-requires-clause-first g c =
    subst (λ (t : Rooted). IsHandleOf t c.in-Some.first) (sym (same_tree (g.R.Rows.sheet c.args.rows.now) (g.R.Rows.sheet c.slot_found.new.rows) c.in-Some.ensures.rest)) c.in-Some.ensures.handle

pub put_from-requires-clause-found : goal.put_from-requires-clause-found
put_from-requires-clause-found g c =
    c.in-Some.ensures.range
    ∙ ap (λ (t : Rooted). found_from (map_by t) (greatest t.table.width) c.args.walk.now.next) (sym (same_tree (g.R.Rows.sheet c.args.rows.now) (g.R.Rows.sheet c.slot_found.new.rows) c.in-Some.ensures.rest))

pub put_from-requires-clause-some : goal.put_from-requires-clause-some
put_from-requires-clause-some g c = omega (arith, eqb-false (length c.args.ranges.now) 0 (sym c.is_empty.ensures ∙ c.if-is_empty.false))

pub returns-clause-put : goal.returns-clause-put
returns-clause-put g c =
    subst (λ (t : Rooted). PutSteps g.P.RangePlace.shows (steps_by t (length c.args.ranges.now) c.args.walk.now.next) c.args.ranges.now c.put_from.new.ranges c.put_from.result c.put_from.new.walk.next)
    (same_tree (g.R.Rows.sheet c.args.rows.now) (g.R.Rows.sheet c.slot_found.new.rows) c.in-Some.ensures.rest) c.put_from.ensures.put

pub returns-clause-walk : goal.returns-clause-walk
returns-clause-walk g c =
    subst (λ (t : Rooted). WalksFrom t c.put_from.new.walk) (same_tree (g.R.Rows.sheet c.args.rows.now) (g.R.Rows.sheet c.slot_found.new.rows) c.in-Some.ensures.rest) c.put_from.ensures.walk
