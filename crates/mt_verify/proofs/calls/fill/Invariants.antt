use Rattle.mt_verify.proofs.Prelude.{IsPermutation, take, calls_told, filled_from}
use Rattle.mt_verify.proofs.calls.fill.Given as goal

abbrev pub invariant-loop-one : goal.invariant-loop-one
invariant-loop-one l = IsPermutation (filled_from 1 l.places) (calls_told l.tree (take l.one-index l.told))
