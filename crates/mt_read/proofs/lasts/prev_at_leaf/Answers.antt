use Rattle.mt_read.proofs.Prelude.{rules, arith, ◌≡◌, ◌≢◌, ◌-◌, ◌∙◌, ℕ, length, sym, ap, subst, None, IfSome, Prev, Rfind, PassPart, here, part_of, Answers, AnswersBy, IsLeafBefore}
use Rattle.mt_read.proofs.Finding.{place_more, sees_on}
use Rattle.mt_read.proofs.Descending.{goes_on, goes_sees, goes_some, place_within}
use Rattle.mt_read.proofs.Reading.{kind_goes, kind_told, stood_here}
use Rattle.mt_read.proofs.Leaving.{kind_beside, kind_hole, left_prev, prev_left}
use Rattle.mt_read.proofs.Before.{first_place}
use Rattle.mt_read.proofs.Preceding.{no_prev, prevs}
use Rattle.mt_read.proofs.lasts.prev_at_leaf.Goals as goal

pub returns-then-place-eq0-clause-goes : goal.returns-then-place-eq0-clause-goes
returns-then-place-eq0-clause-goes g c = goes_on _ _ _ (goes_sees _ _ c.find_slot-place.ensures.sees) c.range_at.ensures.goes

pub returns-then-place-eq0-2-clause-goes : goal.returns-then-place-eq0-2-clause-goes
returns-then-place-eq0-2-clause-goes g c = goes_some c.last_beside.result _ _ _ (goes_sees _ _ c.find_slot-place.ensures.sees) c.last_beside.ensures.goes

pub returns-then-place-eq0-2-clause-moved : goal.returns-then-place-eq0-2-clause-moved
returns-then-place-eq0-2-clause-moved g c =
    let q = part_of c.args.pass.now in let q₁ = part_of c.find_slot-place.new.pass in let q₂ = part_of c.last_beside.new.pass in
    left_prev q q₁ q₂ c.args.leaf.now c.find_slot-place.result c.args.index c.find_slot-place.ensures.sees c.requires.leaf c.requires.from c.requires.to c.find_slot-place.ensures.place c.last_beside.result c.find_slot-place.ensures.to (search rules) c.last_beside.ensures.moved

pub returns-clause-goes : goal.returns-clause-goes
returns-clause-goes g c = goes_some c.last_from.result _ _ _ (goes_sees _ _ c.find_slot-place.ensures.sees) (goes_some c.last_from.result _ _ _ (goes_sees _ _ c.place_before-before.ensures.sees) c.last_from.ensures.goes)

pub returns-clause-moved : goal.returns-clause-moved
returns-clause-moved g c =
    let q = part_of c.args.pass.now in let q₁ = part_of c.find_slot-place.new.pass in let q₂ = part_of c.place_before-before.new.pass in let q₃ = part_of c.last_from.new.pass in
    let sees = sees_on q q₁ q₂ c.find_slot-place.ensures.sees c.place_before-before.ensures.sees in
    prev_left c.last_from.result q q₂ q₃ c.place_before-before.result c.find_slot-place.result c.args.index c.args.leaf.now sees c.place_before-before.ensures.leaf (place_more q₁ q₂ _ c.place_before-before.ensures.sees c.find_slot-place.ensures.place) c.place_before-before.ensures.slot
    c.requires.from c.requires.to c.find_slot-place.ensures.to c.last_from.ensures.moved

pub returns-then-place-eq0-clause-answer : goal.returns-then-place-eq0-clause-answer
returns-then-place-eq0-clause-answer g c =
    let q = part_of c.args.pass.now in let q₁ = part_of c.find_slot-place.new.pass in let q₂ = part_of c.range_at.new.pass in
    let place = c.find_slot-place.result in let on = c.find_slot-place.ensures.on in
    let first : place.first ≡ 0 = search rules in
    let was = c.range_at.ensures.read in
    let level : (here q₁).extent.level ≡ 0 = ap (λ (z : PassPart). (here z).extent.level) c.find_slot-place.ensures.sees.is ∙ c.requires.leaf.level in
    subst (λ (z : PassPart). Answers q₂ (here z).since (Prev c.args.index 0) None) c.find_slot-place.ensures.sees.is
    (no_prev q₁ q₂ place c.args.index c.find_slot-place.ensures.from c.find_slot-place.ensures.to c.find_slot-place.ensures.place on.shape.fills (kind_goes q₁ q₂ c.range_at.ensures.goes)
    (here q₁).since was.read.k was.read.low was.read.high first was.read.map (stood_here q₁ q₂ place c.range_at.result level was c.args.index c.find_slot-place.ensures.from c.find_slot-place.ensures.to))

pub returns-then-place-eq0-2-clause-answer : goal.returns-then-place-eq0-2-clause-answer
returns-then-place-eq0-2-clause-answer g c =
    let q = part_of c.args.pass.now in let q₁ = part_of c.find_slot-place.new.pass in let q₂ = part_of c.last_beside.new.pass in
    let place = c.find_slot-place.result in let on = c.find_slot-place.ensures.on in
    let zero : place.slot ≡ 0 = search rules in
    let other : place.first ≢ 0 = search rules in
    let first = first_place q₁ c.args.leaf.now place on c.find_slot-place.ensures.place zero in
    let old = on.old in let met = on.met in
    let found = subst (λ (n : ℕ). IfSome c.last_beside.result (AnswersBy q₂ (here q₁) (length q₁.seen) (Rfind (n - 1) 0))) (sym first) c.last_beside.ensures.answer in
    subst (λ (z : PassPart). IfSome c.last_beside.result (Answers q₂ (here z).since (Prev c.args.index 0))) c.find_slot-place.ensures.sees.is
    (prevs q₁ q₂ place c.args.index c.find_slot-place.ensures.from c.find_slot-place.ensures.to c.find_slot-place.ensures.place on.shape.fills (kind_told c.last_beside.result q₁ q₂ _ c.last_beside.ensures.goes c.last_beside.ensures.moved (kind_beside IsLeafBefore (here q₁) q₁ q₂))
    c.last_beside.result (length q₁.seen) (here q₁).since (omega arith) (omega arith) found)

pub returns-clause-answer : goal.returns-clause-answer
returns-clause-answer g c =
    let q = part_of c.args.pass.now in let q₁ = part_of c.find_slot-place.new.pass in let q₂ = part_of c.place_before-before.new.pass in let q₃ = part_of c.last_from.new.pass in
    let place = c.find_slot-place.result in
    let sees = sees_on q q₁ q₂ c.find_slot-place.ensures.sees c.place_before-before.ensures.sees in
    let meets = c.place_before-before.ensures.last in
    let last : c.place_before-before.result.last ≡ place.first - 1 = omega arith in
    let found = subst (λ (n : ℕ). IfSome c.last_from.result (AnswersBy q₃ (here q₂) (here q₂).since (Rfind n 0))) last c.last_from.ensures.answer in
    subst (λ (z : PassPart). IfSome c.last_from.result (Answers q₃ (here z).since (Prev c.args.index 0))) sees.is
    (prevs q₂ q₃ place c.args.index c.find_slot-place.ensures.from c.find_slot-place.ensures.to (place_more q₁ q₂ place c.place_before-before.ensures.sees c.find_slot-place.ensures.place) c.place_before-before.ensures.leaf.on.shape.fills
    (kind_told c.last_from.result q₂ q₃ _ c.last_from.ensures.goes c.last_from.ensures.moved (kind_hole c.place_before-before.result q₂ q₃)) c.last_from.result (here q₂).since (here q₂).since (omega arith) (omega arith) found)

pub last_from-requires-clause-from : goal.last_from-requires-clause-from
last_from-requires-clause-from g c = (place_within (part_of c.place_before-before.new.pass) c.args.leaf.now c.place_before-before.result c.place_before-before.ensures.leaf.on c.place_before-before.ensures.place).1
