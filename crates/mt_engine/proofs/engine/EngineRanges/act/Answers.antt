use Rattle.mt_engine.proofs.Moments.{made_by}
use Rattle.mt_engine.proofs.engine.EngineRanges.act.Goals as goal

pub returns-clause-acts : goal.returns-clause-acts
returns-clause-acts g c =
    let old = c.args.self.now in let new = c.apply.new.self in
    made_by old.kind old.sheet new.sheet old.book new.book c.args.call.now c.apply.result c.apply.ensures.applied
