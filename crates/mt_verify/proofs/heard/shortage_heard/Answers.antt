use Rattle.mt_verify.proofs.Prelude.{refl, arith}
use Rattle.mt_verify.proofs.heard.shortage_heard.Goals as goal

pub returns-clause-some : goal.returns-clause-some
returns-clause-some c = λ told are.
    let lane = c.in_ok-pass.ensures.some told are in
    record {
      is = record {
        printed = c.in_ok-short.ensures.some.printed;
        some = (λ yes. omega (arith, c.if-short-eq0.false), λ held. refl);
        by = record { other = lane.0; reads = lane.1 };
      };
      epoch = refl;
    }
