use Rattle.mt_engine.proofs.Prelude.{ap, ◌∙◌, greatest, map_by, Parts, found_from}
use Rattle.mt_engine.proofs.Measured.{measured_if_read}
use Rattle.mt_engine.proofs.engine.Engine.next_range.Goals as goal

pub invariant_of-self : goal.invariant_of-self
invariant_of-self g c = measured_if_read c.self.inside.kind (g.R.Rows.sheet c.self.inside.rows) (g.R.Rows.sheet c.next_range.new.rows) c.self.inside.book c.self.inside.height c.next_range.ensures.rest c.self.invariant

pub returns-clause-range : goal.returns-clause-range
returns-clause-range g c = c.next_range.ensures.range ∙ ap (λ (e : Parts). found_from (map_by e.sheet.tree) (greatest e.sheet.tree.table.width) c.args.walk.now.next) c.self.view_is
