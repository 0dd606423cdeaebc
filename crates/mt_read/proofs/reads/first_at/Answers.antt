use Rattle.mt_read.proofs.Prelude.{◌≤◌, ◌∙◌, Option, subst, IfSome, Range, part_of}
use Rattle.mt_read.proofs.Reading.{ends_in_leaf, finds_here, finds_none, finds_behind, kind_goes}
use Rattle.mt_read.proofs.Descending.{goes_on, goes_sees}
use Rattle.mt_read.proofs.reads.first_at.Goals as goal

pub returns-in-Some-clause-answer : goal.returns-in-Some-clause-answer
returns-in-Some-clause-answer g c =
    let q = part_of c.args.pass.now in let q' = part_of c.range_at.new.pass in
    finds_here q q' c.args.place.now c.range_at.result c.requires.leaf.level c.range_at.ensures.read c.args.index c.requires.from c.requires.to c.in-Some.range c.in-Some.is (kind_goes q q' c.range_at.ensures.goes)

pub returns-then-place-leaf-clause-answer : goal.returns-then-place-leaf-clause-answer
returns-then-place-leaf-clause-answer g c =
    let q = part_of c.args.pass.now in let q' = part_of c.range_at.new.pass in
    let on = c.requires.leaf.on in
    finds_none q q' c.args.place.now c.range_at.result c.requires.leaf.level c.range_at.ensures.read c.args.index c.requires.from c.requires.to c.in_default.is (kind_goes q q' c.range_at.ensures.goes) on.width (c.if-place-leaf.true ∙ on.max) on.within

pub returns-clause-answer : goal.returns-clause-answer
returns-clause-answer g c =
    let q = part_of c.args.pass.now in let q' = part_of c.range_at.new.pass in
    let q₂ = part_of c.next_place-next.new.pass in let q₃ = part_of c.range_at-2.new.pass in
    finds_behind q q' c.args.place.now c.range_at.result c.requires.leaf.level c.range_at.ensures.read c.args.index c.requires.from c.requires.to q₂ q₃ c.range_at.ensures.same c.next_place-next.ensures.sees c.range_at.ensures.goes c.range_at-2.ensures.goes
    c.next_place-next.result c.range_at-2.result c.range_at-2.ensures.read c.in_default.is c.next_place-next.ensures.slot c.requires.leaf.on.within

pub returns-clause-goes : goal.returns-clause-goes
returns-clause-goes g c = goes_on _ _ _ c.range_at.ensures.goes (goes_on _ _ _ (goes_sees _ _ c.next_place-next.ensures.sees) c.range_at-2.ensures.goes)

pub returns-in-Some-clause-within : goal.returns-in-Some-clause-within
returns-in-Some-clause-within g c =
    subst (λ (o : Option Range). IfSome o (λ (r : Range). (c.args.leaf.now.min ≤ r.last) × (r.last ≤ c.args.leaf.now.max))) c.in-Some.is
    (ends_in_leaf (part_of c.args.pass.now) _ c.args.leaf.now c.args.place.now _ c.requires.leaf.on c.requires.place c.range_at.ensures.read)

pub returns-clause-within : goal.returns-clause-within
returns-clause-within g c = ends_in_leaf (part_of c.next_place-next.new.pass) _ c.args.leaf.now c.next_place-next.result _ c.next_place-next.ensures.leaf.on c.next_place-next.ensures.place c.range_at-2.ensures.read
