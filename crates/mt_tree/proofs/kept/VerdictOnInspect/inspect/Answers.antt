use Rattle.mt_tree.proofs.Prelude.{sym, ◌∙◌}
use Rattle.mt_tree.proofs.Reserving.{verdict_as}
use Rattle.mt_tree.proofs.kept.VerdictOnInspect.inspect.Goals as goal

pub returns-clause-finds : goal.returns-clause-finds
returns-clause-finds g c =
    λ e kind tree. verdict_as c.args.engine e c.args.self.call.now c.verdict_of.result.1 (sym (kind ∙ c.requires.kind)) (sym tree) c.verdict_of.ensures.verdict
