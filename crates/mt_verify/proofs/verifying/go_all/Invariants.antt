use Rattle.mt_verify.proofs.Prelude.{◌≡◌, length, HaveGoneTo}
use Rattle.mt_verify.proofs.verifying.go_all.Given as goal

abbrev pub invariant-loop-declared : goal.invariant-loop-declared
invariant-loop-declared l = (length l.gone.items ≡ l.declared-index) × HaveGoneTo l.fn.log l.fn.rows l.fn.account.told.items l.fn.account.rest.now l.gone.items l.rest
