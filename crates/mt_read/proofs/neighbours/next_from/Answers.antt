use Rattle.mt_read.proofs.Prelude.{rules, ℕ, ◌≡◌, ◌≤◌, [], length, subst, IfNone, IfSome, Kind, Next, greatest_of, here, moment_seen, identity_of, part_of, Answers, LeftMarked}
use Rattle.mt_read.proofs.Descending.{goes_some}
use Rattle.mt_read.proofs.Leaving.{left_then}
use Rattle.mt_read.proofs.Reading.{kind_goes}
use Rattle.mt_read.proofs.Crossing.{from_fewer, nexts_nothing}
use Rattle.mt_read.proofs.Upward.{nexts_sought, sought_is, sought_within}
use Rattle.mt_read.proofs.neighbours.next_from.Goals as goal

pub walk-requires-clause-index : goal.walk-requires-clause-index
walk-requires-clause-index g c = sought_within (identity_of c.args.table.now) c.args.pass.now c.args.index c.sought-to.result c.requires.pass c.sought-to.ensures

pub returns-clause-goes : goal.returns-clause-goes
returns-clause-goes g c = goes_some c.next_at_leaf.result _ _ _ c.walk.ensures.goes c.next_at_leaf.ensures.goes

pub returns-clause-moved : goal.returns-clause-moved
returns-clause-moved g c =
    let q = part_of c.args.pass.now in let q₁ = part_of c.walk.new.pass in let q₂ = part_of c.next_at_leaf.new.pass in
    let since : length q.seen ≤ (here q₁).since = search rules in
    let there = sought_is (identity_of c.args.table.now) c.args.pass.now c.args.index c.sought-to.result c.requires.pass c.sought-to.ensures in
    subst (λ (n : ℕ). IfNone c.next_at_leaf.result (LeftMarked (Next n (greatest_of q.shape.kind)) (length q.seen) q q₂)) there
    (left_then c.next_at_leaf.result (Next c.sought-to.result (greatest_of q.shape.kind)) (length q.seen) (here q₁).since q q₁ q₂ since c.walk.ensures.goes
    (subst (λ (k : Kind). IfNone c.next_at_leaf.result (LeftMarked (Next c.sought-to.result (greatest_of k)) (here q₁).since q₁ q₂)) (kind_goes q q₁ c.walk.ensures.goes) c.next_at_leaf.ensures.moved))

pub returns-in_default-clause-answer : goal.returns-in_default-clause-answer
returns-in_default-clause-answer g c =
    let q = part_of c.args.pass.now in let q' = part_of c.walk.new.pass in
    let none : (moment_seen q' (length q'.seen)).ranges ≡ [] = search rules in
    nexts_nothing q q' c.walk.ensures.goes none c.args.index

pub returns-clause-answer : goal.returns-clause-answer
returns-clause-answer g c =
    let q = part_of c.args.pass.now in let q₁ = part_of c.walk.new.pass in let q₂ = part_of c.next_at_leaf.new.pass in
    let since : length q.seen ≤ (here q₁).since = search rules in
    nexts_sought (identity_of c.args.table.now) c.next_at_leaf.new.pass c.args.pass.now c.next_at_leaf.ensures.stepped.of c.requires.pass (length q.seen) c.args.index c.sought-to.result c.sought-to.ensures c.next_at_leaf.result
    (subst (λ (k : Kind). IfSome c.next_at_leaf.result (Answers q₂ (length q.seen) (Next c.sought-to.result (greatest_of k)))) (kind_goes q q₁ c.walk.ensures.goes)
    (from_fewer c.next_at_leaf.result q₂ (here q₁).since (length q.seen) _ since c.next_at_leaf.ensures.answer))
