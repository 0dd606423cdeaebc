use Rattle.mt_rows.proofs.Prelude.{ap, length, arith, Listed}
use Rattle.mt_rows.proofs.ZeroWords.{zeros_long}
use Rattle.mt_rows.proofs.words.Words.set_last.Goals as goal

pub overflow_add-from : goal.overflow_add-from
overflow_add-from c =
    let long = zeros_long c.self.inside.len c.self.inside.written.items c.self.invariant.fit in
    let seen = ap (λ (x : Listed). length x.items) c.self.view_is in
    let asked = c.requires in
    let test = c.loop-i-test.true in
    omega arith
