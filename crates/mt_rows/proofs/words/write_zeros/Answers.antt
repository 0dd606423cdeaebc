use Rattle.mt_rows.proofs.Prelude.{◌∙◌, ap, length, length-append, arith, with_zeros}
use Rattle.mt_rows.proofs.ZeroWords.{zeros_push}
use Rattle.mt_rows.proofs.words.write_zeros.Goals as goal

pub loop-preserved : goal.loop-preserved
loop-preserved c =
    let counted = c.loop.invariant.counted in
    let more = ap length c.push_reserved.ensures.items ∙ length-append c.loop.words.items _ in
    let test = c.loop-test.true in
    record {
      zeros = ap (with_zeros c.args.len) c.push_reserved.ensures.items ∙ (zeros_push c.args.len c.loop.words.items (omega arith) ∙ c.loop.invariant.zeros);
      counted = omega arith;
      room = let room = c.loop.invariant.room in let grown = c.push_reserved.ensures.capacity in omega arith;
      grown = let more = c.loop.invariant.grown in let grown = c.push_reserved.ensures.capacity in omega arith;
    }
