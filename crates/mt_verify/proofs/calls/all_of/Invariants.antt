use Rattle.mt_verify.proofs.Prelude.{◌≡◌, Some, map, take}
use Rattle.mt_verify.proofs.calls.all_of.Given as goal

abbrev pub invariant-loop-place : goal.invariant-loop-place
invariant-loop-place l = map Some l.calls.items ≡ take l.place-index l.places
