use Rattle.mt_read.proofs.Prelude.{Option, length, subst, sym, Range, Find, greatest_of, identity_of, part_of, Answers}
use Rattle.mt_read.proofs.Descending.{goes_on, goes_sees}
use Rattle.mt_read.proofs.Upward.{found_sought, sought_within}
use Rattle.mt_read.proofs.reads.first_from.Goals as goal

pub walk-requires-clause-index : goal.walk-requires-clause-index
walk-requires-clause-index g c = sought_within (identity_of c.args.table.now) c.args.pass.now c.args.index c.sought-to.result c.requires.pass c.sought-to.ensures

pub returns-clause-goes : goal.returns-clause-goes
returns-clause-goes g c = goes_on _ _ _ c.walk.ensures.goes (goes_on _ _ _ (goes_sees _ _ c.find_slot-place.ensures.sees) c.first_at-range.ensures.goes)

pub returns-clause-answer : goal.returns-clause-answer
returns-clause-answer g c =
    subst (λ (v : Option Range). Answers (part_of c.first_at-range.new.pass) (length (part_of c.args.pass.now).seen) (Find c.args.index (greatest_of (part_of c.args.pass.now).shape.kind)) v) (sym c.not_below.ensures)
    (found_sought (identity_of c.args.table.now) c.first_at-range.new.pass c.args.pass.now c.find_slot-place.new.pass (part_of c.walk.new.pass) c.args.index c.sought-to.result c.first_at-range.result c.first_at-range.ensures.stepped.of c.requires.pass c.find_slot-place.ensures.stepped.of c.sought-to.ensures c.find_slot-place.ensures.sees c.in_ok-leaf.ensures.since c.first_at-range.ensures.answer.answers)
