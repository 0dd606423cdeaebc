use Rattle.mt_told.proofs.Words.{no_kind}
use Rattle.mt_told.proofs.heads.kind_before.Goals as goal

pub returns-in_err-kind-clause-none : goal.returns-in_err-kind-clause-none
returns-in_err-kind-clause-none c =
    rw c.from_residual-in_err-kind.ensures (no_kind c.args.text.now c.in_ok-word.word.now c.in_ok-word.rest.now c.in_ok-word.ensures.some c.in_err-kind.ensures.none)
