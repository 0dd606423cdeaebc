use Rattle.mt_tree.proofs.Prelude.{subst, HasHeight, Sheet}
use Rattle.mt_tree.proofs.make.measured.Goals as goal

pub returns-clause-height : goal.returns-clause-height
returns-clause-height c = subst (λ (s : Sheet). HasHeight s.tree c.height-height.result) c.new-engine.ensures.sheet.rest c.height-height.ensures
