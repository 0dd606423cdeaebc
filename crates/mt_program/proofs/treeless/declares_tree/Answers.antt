use Rattle.mt_program.proofs.Prelude.{sym, ◌∙◌}
use Rattle.mt_program.proofs.FirstTrees.{none_declared, some_declared}
use Rattle.mt_program.proofs.treeless.declares_tree.Goals as goal

pub returns-clause-some : goal.returns-clause-some
returns-clause-some c = λ is. some_declared c.args.lines.now (sym c.has_first.ensures ∙ is)

pub returns-clause-none : goal.returns-clause-none
returns-clause-none c = λ is. none_declared c.args.lines.now (sym c.has_first.ensures ∙ is)
