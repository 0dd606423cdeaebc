use Rattle.mt_c.proofs.Prelude.{map, sheet_in}
use Rattle.mt_c.specs.Building as defined
use Rattle.mt_c.proofs.RangesBuilt.{lacks_anyhow, ranges_lack}
use Rattle.mt_c.proofs.building.of_ranges.Goals as goal

pub returns-in-Err-clause-lacks : goal.returns-in-Err-clause-lacks
returns-in-Err-clause-lacks c = lacks_anyhow c.args.code c.args.rows c.in-Some.kind (map defined.range_from_c c.args.ranges.now) c.in-Some.ensures c.in-Err.why c.in-Err.ensures.lacks

pub returns-clause-lacks : goal.returns-clause-lacks
returns-clause-lacks c =
    ranges_lack c.args.code c.args.rows c.in-Some.kind (map defined.range_from_c c.args.ranges.now) c.in-Some.ensures (sheet_in c.in-Ok.rows) c.used_in-used.result c.in-Ok.ensures.order c.in-Ok.ensures.rows c.used_in-used.ensures.size
    c.in-Err-fitted.status c.alone-in-Err-fitted.result c.in-Err-fitted.ensures.lacks c.alone-in-Err-fitted.ensures
