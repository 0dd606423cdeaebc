use Rattle.mt_program.proofs.CutLines.{IsSoFar}
use Rattle.mt_program.proofs.parts.cut.Given as goal

abbrev pub invariant-loop-at : goal.invariant-loop-at
invariant-loop-at l = IsSoFar l.bytes l.at l.begins
