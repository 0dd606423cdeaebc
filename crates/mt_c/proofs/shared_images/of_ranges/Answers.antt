use Rattle.mt_c.proofs.Prelude.{map, sheet_in}
use Rattle.mt_c.specs.Building as building
use Rattle.mt_c.proofs.SharedImages.{no_ranges, ranges_lack}
use Rattle.mt_c.proofs.shared_images.of_ranges.Goals as goal

pub returns-in-Err-clause-lacks : goal.returns-in-Err-clause-lacks
returns-in-Err-clause-lacks c =
    no_ranges c.args.code c.args.rows c.args.passes c.args.calls (map building.range_from_c c.args.ranges.now) c.in-Some.kind c.in-Some.ensures c.in-Err.why c.in-Err.ensures.lacks

pub returns-clause-lacks : goal.returns-clause-lacks
returns-clause-lacks c =
    ranges_lack c.args.code c.args.rows c.args.passes c.args.calls (map building.range_from_c c.args.ranges.now) c.in-Some.kind c.in-Some.ensures (sheet_in c.in-Ok.rows) c.in-Ok.ensures.rows c.in-Err-boxed_with.status c.alone-in-Err-boxed_with.result
    c.in-Err-boxed_with.ensures.lacks c.alone-in-Err-boxed_with.ensures
