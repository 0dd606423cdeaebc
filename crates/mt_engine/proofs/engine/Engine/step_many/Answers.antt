use Rattle.mt_engine.proofs.Prelude.{subst, length, Parts, PutSteps, steps_by}
use Rattle.mt_engine.proofs.Measured.{measured_if_read}
use Rattle.mt_engine.proofs.engine.Engine.step_many.Goals as goal

pub invariant_of-self : goal.invariant_of-self
invariant_of-self g c = measured_if_read c.self.inside.kind (g.R.Rows.sheet c.self.inside.rows) (g.R.Rows.sheet c.step_many.new.rows) c.self.inside.book c.self.inside.height c.step_many.ensures.rest c.self.invariant

pub returns-clause-put : goal.returns-clause-put
returns-clause-put g c =
    subst (λ (e : Parts). PutSteps g.P.RangePlace.shows (steps_by e.sheet.tree (length c.args.ranges.now) c.args.walk.now.next) c.args.ranges.now c.step_many.new.ranges c.step_many.result c.step_many.new.walk.next)
    c.self.view_is c.step_many.ensures.put
