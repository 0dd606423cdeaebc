use Rattle.mt_log.proofs.Prelude.{rules}
use Rattle.mt_log.proofs.Indexed.{first_of_name}
use Rattle.mt_log.proofs.trees.Trees.first_of_name.Goals as goal

-- src/trees.rt:82:13
pub returns-then-eq-clause-tree : goal.returns-then-eq-clause-tree
returns-then-eq-clause-tree c = rw (← c.self.view_is) (first_of_name c.self.inside.kinds.entries c.in_ok-first.first.now c.args.name.now c.in_ok-first.kind.now (search rules) (search rules) (search rules)).0

-- src/trees.rt:82:13
pub returns-then-eq-clause-declared : goal.returns-then-eq-clause-declared
returns-then-eq-clause-declared c = rw (← c.self.view_is) (first_of_name c.self.inside.kinds.entries c.in_ok-first.first.now c.args.name.now c.in_ok-first.kind.now (search rules) (search rules) (search rules)).1
