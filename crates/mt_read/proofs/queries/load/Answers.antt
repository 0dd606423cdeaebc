use Rattle.mt_read.proofs.Prelude.{ℕ, sym, subst, identity_of, part_of, Load, Began}
use Rattle.mt_read.proofs.Finding.{shape_is}
use Rattle.mt_read.proofs.Windows.{read_by}
use Rattle.mt_read.proofs.queries.load.Goals as goal

pub returns-clause-read : goal.returns-clause-read
returns-clause-read g c =
    let t = identity_of c.args.table.now in
    let q = part_of c.args.pass.now in let q₁ = part_of c.begin-section.new.pass in let q₂ = part_of c.entry_of-entry.new.pass in let q₃ = part_of c.end-hi.new.pass in
    let began = subst (λ (n : ℕ). Began n q q₁) (sym c.epoch-lo.ensures) c.begin-section.ensures.began in
    let answer = c.entry_of-entry.ensures.answer in
    let read = read_by t q q₁ q₂ q₃ c.epoch-lo.result c.end-hi.result (shape_is t c.args.pass.now c.requires.pass) began _ c.entry_of-entry.ensures.goes c.end-hi.ensures.ended (Load c.args.index) answer.0 answer.1 c.end-hi.ensures.sound in
    (read.0, answer.0, read.1, answer.2)
