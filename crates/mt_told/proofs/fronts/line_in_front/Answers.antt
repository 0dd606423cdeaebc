use Rattle.mt_told.proofs.Prelude.{sym}
use Rattle.mt_told.proofs.OneWay.{line_before}
use Rattle.mt_told.proofs.fronts.line_in_front.Goals as goal

pub returns-clause-some : goal.returns-clause-some
returns-clause-some c = line_before c.args.text.now c.in_ok-end.end (sym c.in_ok-end.ensures)
