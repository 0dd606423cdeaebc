use Rattle.mt_read.proofs.Prelude.{rules, arith, ◌≤◌, ◌∙◌, length, ap, subst, sym, IfNone, Query, Prev, greatest, greatest_of, here, identity_of, part_of, LeftMarked}
use Rattle.mt_read.proofs.Descending.{goes_some}
use Rattle.mt_read.proofs.Leaving.{left_then}
use Rattle.mt_read.proofs.Crossing.{from_fewer}
use Rattle.mt_read.proofs.Preceding.{prevs_nothing}
use Rattle.mt_read.proofs.Upward.{asked_above, asked_low, end_is, prevs_above}
use Rattle.mt_read.proofs.lasts.prev_from.Goals as goal

pub returns-then-end-index-clause-answer : goal.returns-then-end-index-clause-answer
returns-then-end-index-clause-answer g c =
    prevs_above (identity_of c.args.table.now) c.rfind_from.new.pass (length (part_of c.args.pass.now).seen) c.args.index c.top-end.result c.rfind_from.result c.rfind_from.ensures.stepped.of
    (c.top-end.ensures ∙ ap greatest c.width.ensures) c.if-end-index.true c.rfind_from.ensures.answer

pub returns-then-end-index-clause-moved : goal.returns-then-end-index-clause-moved
returns-then-end-index-clause-moved g c =
    let q = part_of c.args.pass.now in let q' = part_of c.rfind_from.new.pass in
    let end = end_is (identity_of c.args.table.now) c.args.pass.now c.top-end.result c.requires.pass (c.top-end.ensures ∙ ap greatest c.width.ensures) in
    subst (λ (query : Query). IfNone c.rfind_from.result (LeftMarked query (length q.seen) q q')) (asked_above q.shape.kind c.args.index c.top-end.result end c.if-end-index.true) c.rfind_from.ensures.moved

pub walk-requires-clause-index : goal.walk-requires-clause-index
walk-requires-clause-index g c =
    let end = end_is (identity_of c.args.table.now) c.args.pass.now c.top-end.result c.requires.pass (c.top-end.ensures ∙ ap greatest c.width.ensures) in
    let low = c.if-end-index.false in
    omega arith

pub returns-clause-goes : goal.returns-clause-goes
returns-clause-goes g c = goes_some c.prev_at_leaf.result _ _ _ c.walk.ensures.goes c.prev_at_leaf.ensures.goes

pub returns-clause-moved : goal.returns-clause-moved
returns-clause-moved g c =
    let q = part_of c.args.pass.now in let q₁ = part_of c.walk.new.pass in let q₂ = part_of c.prev_at_leaf.new.pass in
    let end = end_is (identity_of c.args.table.now) c.args.pass.now c.top-end.result c.requires.pass (c.top-end.ensures ∙ ap greatest c.width.ensures) in
    let low : c.args.index ≤ greatest_of q.shape.kind = (let upto = c.if-end-index.false in omega arith) in
    subst (λ (query : Query). IfNone c.prev_at_leaf.result (LeftMarked query (length q.seen) q q₂)) (sym (asked_low q.shape.kind c.args.index low))
    (left_then c.prev_at_leaf.result (Prev c.args.index 0) (length q.seen) (here q₁).since q q₁ q₂ (search rules) c.walk.ensures.goes c.prev_at_leaf.ensures.moved)

pub returns-in_default-clause-answer : goal.returns-in_default-clause-answer
returns-in_default-clause-answer g c =
    prevs_nothing (part_of c.args.pass.now) (part_of c.walk.new.pass) c.walk.ensures.goes (search rules) c.args.index

pub returns-clause-answer : goal.returns-clause-answer
returns-clause-answer g c =
    from_fewer c.prev_at_leaf.result (part_of c.prev_at_leaf.new.pass) (here (part_of c.walk.new.pass)).since (length (part_of c.args.pass.now).seen) (Prev c.args.index 0) (search rules) c.prev_at_leaf.ensures.answer
