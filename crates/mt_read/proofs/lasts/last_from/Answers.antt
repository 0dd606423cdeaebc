use Rattle.mt_read.proofs.Prelude.{rules, arith, ◌≡◌, ◌≢◌, ◌-◌, ◌∙◌, ℕ, length, refl, sym, subst, None, IfSome, Rfind, begins_long, here, part_of, AnswersBy, IsLeafBefore}
use Rattle.mt_read.proofs.Descending.{goes_some, place_within}
use Rattle.mt_read.proofs.Leaving.{kind_beside, left_hole}
use Rattle.mt_read.proofs.Reading.{kind_told}
use Rattle.mt_read.proofs.Before.{first_place}
use Rattle.mt_read.proofs.Preceding.{here_by, left_by, no_last}
use Rattle.mt_read.proofs.lasts.last_from.Goals as goal

pub last_beside-requires-clause-order : goal.last_beside-requires-clause-order
last_beside-requires-clause-order g c =
    let on = c.requires.leaf.on in let min = on.min in let max = on.max in
    let inside = place_within (part_of c.args.pass.now) c.args.leaf.now c.args.place.now on c.requires.place in
    let low = inside.0 in let order = inside.1 in let high = inside.2 in omega arith

pub returns-in-Some-clause-answer : goal.returns-in-Some-clause-answer
returns-in-Some-clause-answer g c = here_by (part_of c.args.pass.now) (part_of c.last_at.new.pass) c.args.index c.in-Some.range c.in-Some.ensures.found

pub returns-clause-goes : goal.returns-clause-goes
returns-clause-goes g c = goes_some c.last_beside.result _ _ _ c.last_at.ensures.goes c.last_beside.ensures.goes

pub returns-clause-moved : goal.returns-clause-moved
returns-clause-moved g c =
    left_hole c.last_beside.result (part_of c.args.pass.now) (part_of c.last_at.new.pass) (part_of c.last_beside.new.pass) c.args.place.now c.last_at.ensures.goes c.last_at.ensures.same c.in_default.ensures.none c.last_beside.ensures.moved

pub returns-then-leaf-eq0-clause-answer : goal.returns-then-leaf-eq0-clause-answer
returns-then-leaf-eq0-clause-answer g c =
    let q = part_of c.args.pass.now in let q' = part_of c.last_at.new.pass in
    let none = c.in_default.ensures.none in
    let first = first_place q c.args.leaf.now c.args.place.now c.requires.leaf.on c.requires.place none.0 in
    let zero : c.args.leaf.now.min ≡ 0 = search rules in
    no_last q q' c.args.place.now None c.requires.leaf.level none.1 c.args.index c.requires.from c.requires.to refl (first ∙ zero)

pub returns-clause-answer : goal.returns-clause-answer
returns-clause-answer g c =
    let q = part_of c.args.pass.now in let q₁ = part_of c.last_at.new.pass in let q₂ = part_of c.last_beside.new.pass in
    let none = c.in_default.ensures.none in
    let on = c.requires.leaf.on in let old = on.old in let met = on.met in let more = begins_long q.seen q₁.seen c.last_at.ensures.goes.seen in
    let first = first_place q c.args.leaf.now c.args.place.now on c.requires.place none.0 in
    let other : c.args.leaf.now.min ≢ 0 = search rules in
    let found = subst (λ (n : ℕ). IfSome c.last_beside.result (AnswersBy q₂ (here q₁) (length q₁.seen) (Rfind (n - 1) 0))) (sym first) c.last_beside.ensures.answer in
    left_by q q₁ q₂ c.args.place.now none.1 c.last_at.ensures.same c.last_at.ensures.leaf.on.shape.fills (kind_told c.last_beside.result q₁ q₂ _ c.last_beside.ensures.goes c.last_beside.ensures.moved (kind_beside IsLeafBefore (here q₁) q₁ q₂)) c.args.index c.requires.from c.requires.to (omega arith) c.last_beside.result (length q₁.seen) (here q).since (omega arith) found
