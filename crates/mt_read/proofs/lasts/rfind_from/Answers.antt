use Rattle.mt_read.proofs.Prelude.{rules, ℕ, ◌≡◌, ◌≤◌, [], length, sym, subst, IfNone, Rfind, Held, here, moment_seen, identity_of, part_of, LeftMarked, IsOnLeaf}
use Rattle.mt_read.proofs.Descending.{goes_some, goes_sees, here_more}
use Rattle.mt_read.proofs.Leaving.{rfind_left}
use Rattle.mt_read.proofs.Crossing.{from_fewer}
use Rattle.mt_read.proofs.Preceding.{lefts_nothing, only_answers}
use Rattle.mt_read.proofs.Upward.{rfinds_sought, sought_is, sought_within}
use Rattle.mt_read.proofs.lasts.rfind_from.Goals as goal

pub walk-requires-clause-index : goal.walk-requires-clause-index
walk-requires-clause-index g c = sought_within (identity_of c.args.table.now) c.args.pass.now c.args.index c.sought-to.result c.requires.pass c.sought-to.ensures

pub returns-clause-goes : goal.returns-clause-goes
returns-clause-goes g c = goes_some c.last_from.result _ _ _ c.walk.ensures.goes (goes_some c.last_from.result _ _ _ (goes_sees _ _ c.find_slot-place.ensures.sees) c.last_from.ensures.goes)

pub returns-clause-moved : goal.returns-clause-moved
returns-clause-moved g c =
    let q = part_of c.args.pass.now in let q₁ = part_of c.walk.new.pass in let q₂ = part_of c.find_slot-place.new.pass in let q₃ = part_of c.last_from.new.pass in
    let since : length q.seen ≤ (here q₁).since = search rules in
    let leaf : IsOnLeaf q₁ c.in-Some.leaf = search rules in
    let from : c.in-Some.leaf.min ≤ c.sought-to.result = search rules in
    let to : c.sought-to.result ≤ c.in-Some.leaf.max = search rules in
    let there = sought_is (identity_of c.args.table.now) c.args.pass.now c.args.index c.sought-to.result c.requires.pass c.sought-to.ensures in
    subst (λ (n : ℕ). IfNone c.last_from.result (LeftMarked (Rfind n 0) (length q.seen) q q₃)) there
    (rfind_left c.last_from.result q q₁ q₂ q₃ c.find_slot-place.result (length q.seen) c.sought-to.result c.in-Some.leaf c.walk.ensures.goes c.find_slot-place.ensures.sees leaf since from to c.find_slot-place.ensures.to c.last_from.ensures.moved)

pub returns-in_default-clause-answer : goal.returns-in_default-clause-answer
returns-in_default-clause-answer g c =
    let q = part_of c.args.pass.now in let q' = part_of c.walk.new.pass in
    let none : (moment_seen q' (length q'.seen)).ranges ≡ [] = search rules in
    (lefts_nothing q q' c.walk.ensures.goes none (here q) c.args.index).answers

pub returns-clause-answer : goal.returns-clause-answer
returns-clause-answer g c =
    let q = part_of c.args.pass.now in let q₁ = part_of c.walk.new.pass in let q₂ = part_of c.find_slot-place.new.pass in let q₃ = part_of c.last_from.new.pass in
    let since₁ : length q.seen ≤ (here q₁).since = search rules in
    let since : length q.seen ≤ (here q₂).since = subst (λ (x : Held). length q.seen ≤ x.since) (sym (here_more q₁ q₂ c.find_slot-place.ensures.sees)) since₁ in
    rfinds_sought (identity_of c.args.table.now) c.last_from.new.pass c.args.pass.now c.last_from.ensures.stepped.of c.requires.pass (length q.seen) c.args.index c.sought-to.result c.sought-to.ensures c.last_from.result
    (from_fewer c.last_from.result q₃ (here q₂).since (length q.seen) (Rfind c.sought-to.result 0) since (only_answers c.last_from.result q₃ (here q₂) (here q₂).since (Rfind c.sought-to.result 0) c.last_from.ensures.answer))
