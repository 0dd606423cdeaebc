use Rattle.mt_read.proofs.Prelude.{arith, ℕ, sym, subst, length, identity_of, part_of, tree_in, known_by, Began, ReadAt, SeenAt}
use Rattle.mt_read.proofs.Batching.{entries_as}
use Rattle.mt_read.proofs.Finding.{shape_is}
use Rattle.mt_read.proofs.Windows.{read_at}
use Rattle.mt_read.proofs.many.load_many.Goals as goal

pub returns-clause-entries : goal.returns-clause-entries
returns-clause-entries g c =
    let t = identity_of c.args.table.now in
    let q = part_of c.args.pass.now in let q₁ = part_of c.begin-section.new.pass in let q₂ = part_of c.put_entries-value.new.pass in let q₃ = part_of c.end-hi.new.pass in
    let lo = c.epoch-lo.result in let hi = c.end-hi.result in
    let began = subst (λ (n : ℕ). Began n q q₁) (sym c.epoch-lo.ensures) c.begin-section.ensures.began in
    let ended = c.end-hi.ensures.ended in
    let most = began.most in let seen = ended.seen in
    entries_as (SeenAt q₂) (ReadAt (tree_in t) (known_by q) lo hi (known_by q₃)) (length q₁.seen)
    (λ k query value low at. read_at t q q₁ q₂ q₃ lo hi (shape_is t c.args.pass.now c.requires.pass) began _ c.put_entries-value.ensures.goes ended k query value low at.high at.is c.end-hi.ensures.sound)
    (length q₁.seen) lo (length q₂.seen) hi c.put_entries-value.result c.args.indexes.now c.args.entries.now c.put_entries-value.new.entries (omega arith) (omega arith) (omega arith) c.put_entries-value.ensures.entries
