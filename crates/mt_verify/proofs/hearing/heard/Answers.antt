use Rattle.mt_verify.proofs.hearing.heard.Goals as goal

pub returns-clause-some : goal.returns-clause-some
returns-clause-some c = λ told are. (c.in_ok-short.ensures.some told are, c.in_ok-short.ensures.small)
