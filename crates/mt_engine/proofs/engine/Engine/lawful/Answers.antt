use Rattle.mt_engine.proofs.Prelude.{subst, IsLawfulOf, Parts}
use Rattle.mt_engine.proofs.engine.Engine.lawful.Goals as goal

pub returns : goal.returns
returns g c = subst (λ (e : Parts). IsLawfulOf e.sheet.tree e.kind) c.self.view_is c.self.invariant.idle.state.kept.lawful
