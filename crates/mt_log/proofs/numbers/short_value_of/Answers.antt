use Rattle.mt_log.proofs.Prelude.{rules, arith, get_or, refl}
use Rattle.mt_log.proofs.Digits.{one_more, stopped}
use Rattle.mt_log.proofs.numbers.short_value_of.Goals as goal

pub returns-in_err-value : goal.returns-in_err-value
returns-in_err-value c = rw c.from_residual.ensures (stopped 10 c.loop-byte.byte-index c.loop-byte.value (get_or c.args.digits.now c.loop-byte.byte-index 0) c.args.digits.now (omega arith) c.loop-byte.invariant (omega (arith, c.loop-byte-test.true)) refl (search rules))

pub loop-byte-preserved : goal.loop-byte-preserved
loop-byte-preserved c = rw c.in_ok-value.ensures.1 (one_more 10 c.loop-byte.byte-index c.loop-byte.value (get_or c.args.digits.now c.loop-byte.byte-index 0) c.args.digits.now c.loop-byte.invariant (omega (arith, c.loop-byte-test.true)) refl c.in_ok-value.ensures.0.0 c.in_ok-value.ensures.0.1)
