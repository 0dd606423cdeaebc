-- the pass that the cursor had is of the tree over which it walked
use Rattle.mt_bench.proofs.Prelude.{rules, ap, ◌∙◌, still_of}
use Rattle.mt_bench.proofs.callers.visit_counted.Goals as goal

pub returns : goal.returns
returns g c = still_of c.take_all-visit.new.cursor.tree.now c.args.tree.now _ (ap (λ b. b.now) c.take_all-visit.ensures.tree ∙ c.cursor-cursor.ensures.tree) (search rules)
