use Rattle.mt_read.proofs.Prelude.{◌≡◌, Option, Some, None, sym, subst, IfSome, IfNone, Range, Rfind, here, part_of, LeafAnswers, WasRead}
use Rattle.mt_read.proofs.Descending.{goes_on, goes_sees}
use Rattle.mt_read.proofs.Preceding.{last_before, last_here}
use Rattle.mt_read.proofs.lasts.last_at.Goals as goal

pub returns-in-Some-clause-found : goal.returns-in-Some-clause-found
returns-in-Some-clause-found g c =
    let q = part_of c.args.pass.now in let q' = part_of c.range_at.new.pass in
    last_here q q' c.args.place.now c.range_at.result c.requires.leaf.level c.range_at.ensures.read c.args.index c.requires.from c.requires.to c.in-Some.range c.in-Some.is

pub returns-clause-goes : goal.returns-clause-goes
returns-clause-goes g c = goes_on _ _ _ c.range_at.ensures.goes (goes_on _ _ _ (goes_sees _ _ c.place_before-before.ensures.sees) c.range_at-2.ensures.goes)

pub returns-clause-found : goal.returns-clause-found
returns-clause-found g c =
    let q = part_of c.args.pass.now in let q' = part_of c.range_at.new.pass in let q₂ = part_of c.place_before-before.new.pass in let q₃ = part_of c.range_at-2.new.pass in
    let r = last_before q q' c.args.place.now c.range_at.result c.requires.leaf.level c.range_at.ensures.read c.args.index c.requires.from c.requires.to q₂ q₃ c.range_at.ensures.same c.place_before-before.ensures.sees c.range_at.ensures.goes c.range_at-2.ensures.goes
    c.place_before-before.result c.range_at-2.result c.range_at-2.ensures.read c.in_default.is c.place_before-before.ensures.slot c.place_before-before.ensures.last in
    subst (λ (o : Option Range). IfSome o (λ (x : Range). LeafAnswers q₃ (here q) (Rfind c.args.index 0) (Some x))) (sym r.1) r.2

pub returns-clause-none : goal.returns-clause-none
returns-clause-none g c =
    let q = part_of c.args.pass.now in let q' = part_of c.range_at.new.pass in let q₂ = part_of c.place_before-before.new.pass in let q₃ = part_of c.range_at-2.new.pass in
    let r = last_before q q' c.args.place.now c.range_at.result c.requires.leaf.level c.range_at.ensures.read c.args.index c.requires.from c.requires.to q₂ q₃ c.range_at.ensures.same c.place_before-before.ensures.sees c.range_at.ensures.goes c.range_at-2.ensures.goes
    c.place_before-before.result c.range_at-2.result c.range_at-2.ensures.read c.in_default.is c.place_before-before.ensures.slot c.place_before-before.ensures.last in
    subst (λ (o : Option Range). IfNone o ((c.args.place.now.slot ≡ 0) × WasRead q q₃ c.args.place.now None)) (sym r.1) tt
