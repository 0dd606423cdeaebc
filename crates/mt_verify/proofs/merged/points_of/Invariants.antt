use Rattle.mt_verify.proofs.Prelude.{take}
use Rattle.mt_verify.proofs.Merging.{IsMerged}
use Rattle.mt_verify.proofs.merged.points_of.Given as goal

abbrev pub invariant-loop-one : goal.invariant-loop-one
invariant-loop-one l = IsMerged l.fn.gone (take l.one-index l.fn.told) l.used.items l.points.items
