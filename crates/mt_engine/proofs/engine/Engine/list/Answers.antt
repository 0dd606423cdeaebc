use Rattle.mt_engine.proofs.Prelude.{◌≡◌, subst, IfOk, map_by, Parts}
use Rattle.mt_engine.proofs.Measured.{measured_if_read}
use Rattle.mt_engine.proofs.engine.Engine.list.Goals as goal

pub invariant_of-self : goal.invariant_of-self
invariant_of-self g c = measured_if_read c.self.inside.kind (g.R.Rows.sheet c.self.inside.rows) (g.R.Rows.sheet c.list.new.rows) c.self.inside.book c.self.inside.height c.list.ensures.rest c.self.invariant

pub returns-clause-items : goal.returns-clause-items
returns-clause-items g c = subst (λ (e : Parts). IfOk c.list.result (λ ranges. ranges.items ≡ map_by e.sheet.tree)) c.self.view_is c.list.ensures.items
