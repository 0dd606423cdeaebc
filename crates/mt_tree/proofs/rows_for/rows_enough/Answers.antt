use Rattle.mt_tree.proofs.Prelude.{ap, ℕ, ◌+◌, ◌*◌, ◌/◌}
use Rattle.mt_tree.proofs.RowsFor.{enough}
use Rattle.mt_tree.proofs.rows_for.rows_enough.Goals as goal

pub returns-then-rows-le-MOST_ROWS-clause-enough : goal.returns-then-rows-le-MOST_ROWS-clause-enough
returns-then-rows-le-MOST_ROWS-clause-enough c = enough c.args.ranges _ (ap (λ (n : ℕ). c.args.ranges / 2 + 3 * n + 3) c.levels_for.ensures.is)
