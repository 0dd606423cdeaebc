use Rattle.mt_rows.proofs.Prelude.{◌<◌, ◌+◌, ◌∙◌, ap, length, arith, length-set, Listed}
use Rattle.mt_rows.proofs.ZeroWords.{zeros_fit, listed_long}
use Rattle.mt_rows.proofs.words.Words.set.Goals as goal

pub invariant_of-self : goal.invariant_of-self
invariant_of-self c =
    let fit = c.self.invariant.fit in
    let long = listed_long c.self.inside.len c.self.inside.written.items c.args.self.now.items fit (ap (λ (x : Listed). x.items) c.self.view_is) in
    let asked = c.requires in
    let within : c.args.at < c.self.inside.len = omega arith in
    let few = zeros_fit (c.args.at + 1) c.self.inside.len c.self.inside.written.items (omega arith) fit in
    let size = length-set c.write_zeros.new.words.items c.args.at c.args.word ∙ ap length c.write_zeros.ensures.items in
    record {
      fit = omega arith;
      room = let room = c.self.invariant.room in let grown = c.write_zeros.ensures.capacity in omega arith;
    }
