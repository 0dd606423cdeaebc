use Rattle.mt_read.proofs.Prelude.{rules, ◌≤◌, Option, length, ap, subst, sym, IfSome, Range, Find, greatest_of, PassPart, IsAt, here, identity_of, part_of, Answers, IsUnder, SeesMore}
use Rattle.mt_read.proofs.Descending.{goes_on, goes_sees}
use Rattle.mt_read.proofs.Leaves.{reached_anew, reached_same}
use Rattle.mt_read.proofs.Sought.{some_not_below}
use Rattle.mt_read.proofs.Upward.{found_sought, sought_within}
use Rattle.mt_read.proofs.cursor.first_anew.Goals as goal

pub walk_along-requires-clause-index : goal.walk_along-requires-clause-index
walk_along-requires-clause-index g c = sought_within (identity_of c.args.table.now) c.args.pass.now c.args.index c.sought-to.result c.requires.pass c.sought-to.ensures

pub returns-clause-answer : goal.returns-clause-answer
returns-clause-answer g c =
    subst (λ (v : Option Range). Answers (part_of c.first_at-range.new.pass) (length (part_of c.args.pass.now).seen) (Find c.args.index (greatest_of (part_of c.args.pass.now).shape.kind)) v) (sym c.not_below.ensures)
    (found_sought (identity_of c.args.table.now) c.first_at-range.new.pass c.args.pass.now c.find_along-place.new.pass (part_of c.walk_along.new.pass) c.args.index c.sought-to.result c.first_at-range.result c.first_at-range.ensures.stepped.of c.requires.pass c.find_along-place.ensures.stepped.of c.sought-to.ensures c.find_along-place.ensures.sees (search rules) c.first_at-range.ensures.answer.answers)

pub returns-clause-within : goal.returns-clause-within
returns-clause-within g c =
    let P : Range → Type 0 = λ r. (c.in-Some.found.min ≤ r.last) × (r.last ≤ c.in-Some.found.max) in
    subst (λ (v : Option Range). IfSome v P) (sym c.not_below.ensures) (some_not_below P c.args.index c.args.index c.first_at-range.result c.first_at-range.ensures.within)

pub returns-clause-goes : goal.returns-clause-goes
returns-clause-goes g c = goes_on _ _ _ c.walk_along.ensures.goes (goes_on _ _ _ (goes_sees _ _ c.find_along-place.ensures.sees) c.first_at-range.ensures.goes)

-- nothing was reached
pub returns-in_default-clause-reached : goal.returns-in_default-clause-reached
returns-in_default-clause-reached g c =
    let q = part_of c.args.pass.now in let q₁ = part_of c.walk_along.new.pass in
    let sees : SeesMore q q₁ = search rules in
    reached_same q q₁ (ap (λ (z : PassPart). z.held) sees.is)

-- the leaf that the section was at is below
pub returns-clause-reached : goal.returns-clause-reached
returns-clause-reached g c =
    let q = part_of c.args.pass.now in let q₁ = part_of c.walk_along.new.pass in let q₂ = part_of c.find_along-place.new.pass in let q₃ = part_of c.first_at-range.new.pass in
    let goes = goes_on q q₁ q₃ c.walk_along.ensures.goes (goes_on q₁ q₂ q₃ (goes_sees q₁ q₂ c.find_along-place.ensures.sees) c.first_at-range.ensures.goes) in
    let under : IsAt q → IsUnder q₁ (here q) = search rules in
    reached_anew q q₃ goes.under (λ at. c.first_at-range.ensures.goes.under (here q) ((goes_sees q₁ q₂ c.find_along-place.ensures.sees).under (here q) (under at)))
