use Rattle.mt_engine.proofs.Prelude.{ap, ◌∙◌, answer, map_by, Parts}
use Rattle.mt_engine.proofs.Measured.{measured_if_read}
use Rattle.mt_engine.proofs.engine.Engine.ask.Goals as goal

pub invariant_of-self : goal.invariant_of-self
invariant_of-self g c = measured_if_read c.self.inside.kind (g.R.Rows.sheet c.self.inside.rows) (g.R.Rows.sheet c.ask.new.rows) c.self.inside.book c.self.inside.height c.ask.ensures.rest c.self.invariant

pub returns-clause-answer : goal.returns-clause-answer
returns-clause-answer g c = c.ask.ensures.answer ∙ ap (λ (e : Parts). answer (map_by e.sheet.tree) c.args.query.now) c.self.view_is
