use Rattle.mt_desks.proofs.Prelude.{HasSwapped}
use Rattle.mt_desks.proofs.passing.swap_passes.Given as goal

abbrev pub invariant-loop-tree : goal.invariant-loop-tree
invariant-loop-tree g l = HasSwapped (λ row. row.items) l.lane l.tree l.initial.rows l.rows l.initial.passes l.passes
