use Rattle.mt_desks.proofs.Scanning.{keeps_one}
use Rattle.mt_desks.proofs.scans.look_on.Goals as goal

pub returns-clause-once : goal.returns-clause-once
returns-clause-once g c = keeps_one c.step-read.result.lo c.step-read.result.hi c.step-read.result.value (g.W.Walks.walk c.args.walk.now) (g.W.Walks.walk c.step-read.new.self) c.step-read.ensures.walked
