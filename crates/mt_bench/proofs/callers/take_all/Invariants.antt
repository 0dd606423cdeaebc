-- the cursor walks over the same tree, by the same pass
use Rattle.mt_bench.proofs.Prelude.{◌≡◌}
use Rattle.mt_bench.proofs.callers.take_all.Given as goal

abbrev pub invariant-loop : goal.invariant-loop
invariant-loop g l =
    (l.cursor.pass.ghost_name ≡ l.initial.cursor.pass.ghost_name)
    × (l.cursor.tree ≡ l.initial.cursor.tree)
