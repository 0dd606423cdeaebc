use Rattle.mt_verify.proofs.Prelude.{ℕ, ◌<◌, get_or, ToldLine, EndsInTree}
use Rattle.mt_verify.proofs.windows.windows_end.Given as goal

abbrev pub invariant-loop-one : goal.invariant-loop-one
invariant-loop-one l = (k : ℕ) (d : ToldLine) → k < l.one-index → EndsInTree l.told (get_or l.told k d)
