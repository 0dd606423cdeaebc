use Rattle.mt_read.proofs.Prelude.{rules, arith, ◌≡◌, ◌+◌, ◌∙◌, ℕ, length, inr, sym, ap, subst, None, IfSome, Find, Next, greatest, greatest_of, PassPart, here, part_of, Answers, AnswersBy, LeafAnswers, IsBehind}
use Rattle.mt_read.proofs.Finding.{place_more, sees_on}
use Rattle.mt_read.proofs.Descending.{goes_on, goes_sees, goes_some, place_within}
use Rattle.mt_read.proofs.Reading.{kind_goes, kind_told, stood_here}
use Rattle.mt_read.proofs.Leaving.{kind_beside, left_next}
use Rattle.mt_read.proofs.Crossing.{crosses, crosses_beside, ends, from_fewer}
use Rattle.mt_read.proofs.neighbours.next_at_leaf.Goals as goal

pub returns-then-place-leaf-clause-goes : goal.returns-then-place-leaf-clause-goes
returns-then-place-leaf-clause-goes g c = goes_on _ _ _ (goes_sees _ _ c.find_slot-place.ensures.sees) (goes_on _ _ _ (goes_sees _ _ c.next_place-next.ensures.sees) c.first_at.ensures.goes)

pub returns-then-leaf-top-clause-goes : goal.returns-then-leaf-top-clause-goes
returns-then-leaf-top-clause-goes g c = goes_on _ _ _ (goes_sees _ _ c.find_slot-place.ensures.sees) c.range_at.ensures.goes

pub returns-clause-goes : goal.returns-clause-goes
returns-clause-goes g c = goes_some c.first_beside.result _ _ _ (goes_sees _ _ c.find_slot-place.ensures.sees) c.first_beside.ensures.goes

pub returns-clause-moved : goal.returns-clause-moved
returns-clause-moved g c =
    let q = part_of c.args.pass.now in let q₁ = part_of c.find_slot-place.new.pass in let q₂ = part_of c.first_beside.new.pass in
    left_next q q₁ q₂ c.args.leaf.now c.find_slot-place.result c.args.index c.find_slot-place.ensures.sees c.requires.leaf c.requires.from c.requires.to c.find_slot-place.ensures.place c.first_beside.result c.find_slot-place.ensures.from (search rules) c.first_beside.ensures.moved

pub returns-then-place-leaf-clause-answer : goal.returns-then-place-leaf-clause-answer
returns-then-place-leaf-clause-answer g c =
    let q = part_of c.args.pass.now in let q₁ = part_of c.find_slot-place.new.pass in let q₂ = part_of c.next_place-next.new.pass in let q₃ = part_of c.first_at.new.pass in
    let place = c.find_slot-place.result in
    let sees = sees_on q q₁ q₂ c.find_slot-place.ensures.sees c.next_place-next.ensures.sees in
    let a = subst (λ (n : ℕ). LeafAnswers q₃ (here q₂) (Find n (greatest_of q₂.shape.kind)) c.first_at.result) c.next_place-next.ensures.first c.first_at.ensures.answer in
    subst (λ (z : PassPart). Answers q₃ (here z).since (Next c.args.index (greatest_of z.shape.kind)) c.first_at.result) sees.is
    (crosses q₂ q₃ place c.args.index c.find_slot-place.ensures.from c.find_slot-place.ensures.to (place_more q₁ q₂ place c.next_place-next.ensures.sees c.find_slot-place.ensures.place) c.next_place-next.ensures.leaf.on.shape.fills
    (kind_goes q₂ q₃ c.first_at.ensures.goes) (here q₂).since c.first_at.result a.answers (inr a.stood))

pub returns-then-leaf-top-clause-answer : goal.returns-then-leaf-top-clause-answer
returns-then-leaf-top-clause-answer g c =
    let q = part_of c.args.pass.now in let q₁ = part_of c.find_slot-place.new.pass in let q₂ = part_of c.range_at.new.pass in
    let place = c.find_slot-place.result in let on = c.find_slot-place.ensures.on in
    let was = c.range_at.ensures.read in
    let level : (here q₁).extent.level ≡ 0 = ap (λ (z : PassPart). (here z).extent.level) c.find_slot-place.ensures.sees.is ∙ c.requires.leaf.level in
    let end : place.last ≡ c.args.leaf.now.max = search rules in
    let top : c.args.leaf.now.max ≡ c.top.result = search rules in
    let last : place.last ≡ greatest_of q₁.shape.kind = end ∙ (top ∙ (c.top.ensures ∙ ap greatest on.wide)) in
    subst (λ (z : PassPart). Answers q₂ (here z).since (Next c.args.index (greatest_of z.shape.kind)) None) c.find_slot-place.ensures.sees.is
    (ends q₁ q₂ place c.args.index c.find_slot-place.ensures.from c.find_slot-place.ensures.to c.find_slot-place.ensures.place on.shape.fills (kind_goes q₁ q₂ c.range_at.ensures.goes)
    (here q₁).since was.read.k was.read.low was.read.high last was.read.map (stood_here q₁ q₂ place c.range_at.result level was c.args.index c.find_slot-place.ensures.from c.find_slot-place.ensures.to))

pub returns-clause-answer : goal.returns-clause-answer
returns-clause-answer g c =
    let q = part_of c.args.pass.now in let q₁ = part_of c.find_slot-place.new.pass in let q₂ = part_of c.first_beside.new.pass in
    let place = c.find_slot-place.result in let on = c.find_slot-place.ensures.on in
    let end : place.last ≡ c.args.leaf.now.max = search rules in
    let old = on.old in let met = on.met in
    let found = subst (λ (n : ℕ). IfSome c.first_beside.result (AnswersBy q₂ (here q₁) (length q₁.seen) (Find (n + 1) (greatest_of q₁.shape.kind)))) (sym end) c.first_beside.ensures.answer in
    subst (λ (z : PassPart). IfSome c.first_beside.result (Answers q₂ (here z).since (Next c.args.index (greatest_of z.shape.kind)))) c.find_slot-place.ensures.sees.is
    (from_fewer c.first_beside.result q₂ (length q₁.seen) (here q₁).since _ (omega arith)
    (crosses_beside q₁ q₂ place c.args.index c.find_slot-place.ensures.from c.find_slot-place.ensures.to c.find_slot-place.ensures.place on.shape.fills (kind_told c.first_beside.result q₁ q₂ _ c.first_beside.ensures.goes c.first_beside.ensures.moved (kind_beside IsBehind (here q₁) q₁ q₂)) c.first_beside.result (length q₁.seen) found))

pub first_at-requires-clause-to : goal.first_at-requires-clause-to
first_at-requires-clause-to g c = (place_within (part_of c.next_place-next.new.pass) c.args.leaf.now c.next_place-next.result c.next_place-next.ensures.leaf.on c.next_place-next.ensures.place).1
