use Rattle.mt_engine.proofs.Prelude.{ap, subst, ◌∙◌, option_map, Range, Load, answer, map_by, Parts, LoadsItsWay}
use Rattle.mt_engine.proofs.Measured.{measured_if_read}
use Rattle.mt_engine.proofs.engine.Engine.load.Goals as goal

pub invariant_of-self : goal.invariant_of-self
invariant_of-self g c = measured_if_read c.self.inside.kind (g.R.Rows.sheet c.self.inside.rows) (g.R.Rows.sheet c.entry_at.new.rows) c.self.inside.book c.self.inside.height c.entry_at.ensures.rest c.self.invariant

pub returns-clause-entry : goal.returns-clause-entry
returns-clause-entry g c = c.entry_at.ensures.entry ∙ ap (λ (e : Parts). option_map (λ (r : Range). r.entry) (answer (map_by e.sheet.tree) (Load c.args.index))) c.self.view_is

pub returns-clause-reads : goal.returns-clause-reads
returns-clause-reads g c = subst (λ (e : Parts). LoadsItsWay c.args.index e.sheet (g.R.Rows.sheet c.entry_at.new.rows)) c.self.view_is c.entry_at.ensures.reads
