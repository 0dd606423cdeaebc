use Rattle.mt_told.proofs.Words.{name_before, no_name}
use Rattle.mt_told.proofs.heads.name_before.Goals as goal

pub returns-in_err-name-clause-none : goal.returns-in_err-name-clause-none
returns-in_err-name-clause-none c =
    rw c.from_residual-in_err-name.ensures (no_name c.args.text.now c.in_ok-word.word.now c.in_ok-word.rest.now c.in_ok-word.ensures.some c.in_err-name.ensures)

pub returns-clause-some : goal.returns-clause-some
returns-clause-some c = name_before c.args.text.now c.in_ok-word.word.now c.in_ok-name.name c.in_ok-word.rest.now c.in_ok-word.ensures.some c.in_ok-name.ensures.0 c.in_ok-name.ensures.1
