use Rattle.mt_c.proofs.Prelude.{rules}
use Rattle.mt_c.proofs.RangesBuilt.{why_refused}
use Rattle.mt_c.proofs.building.built.Goals as goal

pub returns-clause-lacks : goal.returns-clause-lacks
returns-clause-lacks c = why_refused c.args.kind c.deref.result.now _ c.in-Err.why c.of.result (search rules) c.of.ensures c.in-Err.ensures.err
