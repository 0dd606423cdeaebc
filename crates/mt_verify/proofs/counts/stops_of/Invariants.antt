use Rattle.mt_verify.proofs.CountedLines.{IsCounting}
use Rattle.mt_verify.proofs.counts.stops_of.Given as goal

abbrev pub invariant-loop-one : goal.invariant-loop-one
invariant-loop-one l = IsCounting l.fn.own l.one-index l.counting l.stops.items
