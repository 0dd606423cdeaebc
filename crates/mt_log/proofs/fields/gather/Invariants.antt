use Rattle.mt_log.proofs.Prelude.{◌≡◌, ◌++◌, map, length, fields_of}
use Rattle.mt_log.proofs.fields.gather.Given as goal

abbrev pub invariant-loop-rest : goal.invariant-loop-rest
invariant-loop-rest l = map (λ f. f.now) l.fields.items ++ fields_of l.rest ≡ fields_of l.line

abbrev pub decreases-loop-rest : goal.decreases-loop-rest
decreases-loop-rest l = length l.rest
