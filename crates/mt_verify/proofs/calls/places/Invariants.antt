use Rattle.mt_verify.proofs.Prelude.{◌≡◌, [], length, filled_from}
use Rattle.mt_verify.proofs.calls.places.Given as goal

abbrev pub invariant-loop : goal.invariant-loop
invariant-loop l = (length l.places.items ≡ l.counter) × (filled_from 1 l.places.items ≡ [])
