use Rattle.mt_gap.proofs.Prelude.{ℕ, ◌-◌, Gapped, step_at}
use Rattle.mt_gap.proofs.Along.{HasMendedOn}
use Rattle.mt_gap.proofs.mends.mend_along.Given as goal

abbrev pub invariant-loop-level : goal.invariant-loop-level
invariant-loop-level g l = (leaf : ℕ) × HasMendedOn (g.R.Rows.sheet l.fn.rows) (g.R.Rows.sheet l.rows) l.path.items leaf Gapped l.level (step_at l.path.items (l.level - 1))

abbrev pub decreases-loop-level : goal.decreases-loop-level
decreases-loop-level g l = l.level
