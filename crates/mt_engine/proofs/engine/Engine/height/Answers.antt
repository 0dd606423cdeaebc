use Rattle.mt_engine.proofs.Prelude.{subst, Parts, HasHeight}
use Rattle.mt_engine.proofs.engine.Engine.height.Goals as goal

pub returns : goal.returns
returns g c = subst (λ (e : Parts). HasHeight e.sheet.tree c.self.inside.height) c.self.view_is c.self.invariant.measured
