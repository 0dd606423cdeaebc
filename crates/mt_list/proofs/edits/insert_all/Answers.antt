use Rattle.mt_list.proofs.Prelude.{◌∙◌, ◌<◌, ◌≤◌, length, arith, get_or_default}
use Rattle.mt_list.proofs.Replaced.{one_more_piece}
use Rattle.mt_list.proofs.edits.insert_all.Goals as goal

pub loop-i-preserved : goal.loop-i-preserved
loop-i-preserved c =
    let (so_far, long, room) = c.loop-i.invariant in
    let within : c.loop-i.i < length c.args.pieces.now = omega arith in
    let bound : c.args.at ≤ length c.args.ranges.now.items = omega (arith, c.args.ranges.now.ok.0) in (
      c.in-Ok.ensures.items ∙ one_more_piece c.args.ranges.now.items c.args.pieces.now c.loop-i.ranges.items c.args.at c.loop-i.i _ bound within (get_or_default _ _ _ _ within) so_far,
      omega (arith, c.in-Ok.ensures.len),
      omega (arith, c.insert.ensures.capacity),
    )
