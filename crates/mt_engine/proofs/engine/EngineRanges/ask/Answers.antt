use Rattle.mt_engine.proofs.Prelude.{ap, map_by, Sheet}
use Rattle.mt_engine.proofs.engine.EngineRanges.ask.Goals as goal

pub returns-clause-map : goal.returns-clause-map
returns-clause-map g c = ap (λ (s : Sheet). map_by s.tree) c.ask.ensures.rest
