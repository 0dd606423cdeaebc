use Rattle.mt_read.proofs.Prelude.{ℕ, sym, subst, length, Option, Range, Find, identity_of, part_of, Answers, Began}
use Rattle.mt_read.proofs.Finding.{shape_is}
use Rattle.mt_read.proofs.Reading.{kind_goes}
use Rattle.mt_read.proofs.Windows.{bounded, read_by}
use Rattle.mt_read.proofs.queries.find.Goals as goal

pub returns-clause-read : goal.returns-clause-read
returns-clause-read g c =
    let t = identity_of c.args.table.now in
    let q = part_of c.args.pass.now in let q₁ = part_of c.begin-section.new.pass in let q₂ = part_of c.first_from-range.new.pass in let q₃ = part_of c.end-hi.new.pass in
    let began = subst (λ (n : ℕ). Began n q q₁) (sym c.epoch-lo.ensures) c.begin-section.ensures.began in
    let answers = bounded q₂ q₁.shape.kind (length q₁.seen) c.args.index c.args.max c.first_from-range.result (kind_goes q₁ q₂ c.first_from-range.ensures.goes) c.first_from-range.ensures.answer in
    read_by t q q₁ q₂ q₃ c.epoch-lo.result c.end-hi.result (shape_is t c.args.pass.now c.requires.pass) began _ c.first_from-range.ensures.goes c.end-hi.ensures.ended (Find c.args.index c.args.max) c.within.result
    (subst (λ (v : Option Range). Answers q₂ (length q₁.seen) (Find c.args.index c.args.max) v) (sym c.within.ensures) answers) c.end-hi.ensures.sound
