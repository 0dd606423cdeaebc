use Rattle.mt_read.proofs.Prelude.{arith, ◌≡◌, ◌∙◌, ap, sym, length, Some, None, identity_of, part_of, moment_seen, find_at, Cursor}
use Rattle.mt_read.proofs.Finding.{shape_is}
use Rattle.mt_read.proofs.Keeping.{nothing_goes}
use Rattle.mt_read.proofs.Stepping.{asks_nothing, asks_there, read_step}
use Rattle.mt_read.proofs.cursor.Cursor.step.Goals as goal

pub returns-in_default-clause-read : goal.returns-in_default-clause-read
returns-in_default-clause-read g c =
    let t = identity_of c.args.table.now in
    let q = part_of c.args.pass.now in let q₁ = part_of c.resume-lo.new.pass in let q₃ = part_of c.load_begun-hi.new.pass in
    let none : c.args.self.now.at ≡ None = ap (λ (s : Cursor). s.at) (sym c.resume-lo.ensures.same) ∙ c.in_default.is in
    read_step t q q₁ q₁ q₃ c.resume-lo.result c.load_begun-hi.result c.args.self.now.epoch (shape_is t c.args.pass.now c.requires.pass) c.requires.cursor.standing c.resume-lo.ensures.resumed _ (nothing_goes q₁) c.load_begun-hi.ensures.told
    (find_at c.args.self.now.at c.args.self.now.max) None (length q₁.seen) (omega arith) (omega arith) (asks_nothing (moment_seen q₁ (length q₁.seen)).ranges c.args.self.now.at c.args.self.now.max none) c.load_begun-hi.ensures.sound

pub returns-clause-read : goal.returns-clause-read
returns-clause-read g c =
    let t = identity_of c.args.table.now in
    let q = part_of c.args.pass.now in let q₁ = part_of c.resume-lo.new.pass in let q₂ = part_of c.look-value.new.pass in let q₃ = part_of c.load_begun-hi-2.new.pass in
    let some : c.args.self.now.at ≡ Some c.in-Some.index = ap (λ (s : Cursor). s.at) (sym c.resume-lo.ensures.same) ∙ c.in-Some.is in
    let a = c.look-value.ensures.answer in
    read_step t q q₁ q₂ q₃ c.resume-lo.result c.load_begun-hi-2.result c.args.self.now.epoch (shape_is t c.args.pass.now c.requires.pass) c.requires.cursor.standing c.resume-lo.ensures.resumed _ c.look-value.ensures.gone.goes c.load_begun-hi-2.ensures.told
    (find_at c.args.self.now.at c.args.self.now.max) c.look-value.result a.k a.low a.high
    (a.is ∙ asks_there (moment_seen q₂ a.k).ranges c.args.self.now.at c.in-Some.index c.resume-lo.new.self.max c.args.self.now.max some (ap (λ (s : Cursor). s.max) c.resume-lo.ensures.same)) c.load_begun-hi-2.ensures.sound
