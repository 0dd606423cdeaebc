use Rattle.mt_told.proofs.Prelude.{sym}
use Rattle.mt_told.proofs.Words.{word_before}
use Rattle.mt_told.proofs.heads.word_in_front.Goals as goal

pub returns-clause-some : goal.returns-clause-some
returns-clause-some c = word_before c.args.text.now c.in_ok-end.end (sym c.in_ok-end.ensures)
