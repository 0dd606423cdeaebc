use Rattle.mt_told.proofs.LineByLine.{LinesGoOn}
use Rattle.mt_told.proofs.reading.read_told.Given as goal

abbrev pub invariant-loop-line : goal.invariant-loop-line
invariant-loop-line l = LinesGoOn l.log.lines l.fn.text l.rest l.told.items l.stand.lane l.stand.phase l.line-index
