use Rattle.mt_replay.proofs.Prelude.{arith, sym, ap, ◌∙◌}
use Rattle.mt_replay.proofs.Laying.{lane_more}
use Rattle.mt_replay.proofs.Telling.{room_behind}
use Rattle.mt_replay.proofs.lanes.lay_lanes.Goals as goal

pub loop-lane-preserved : goal.loop-lane-preserved
loop-lane-preserved g c =
    let so = c.loop-lane.invariant in
    let more = lane_more c.args.trees.now c.args.phase c.args.lines.now c.args.first.items c.replace-own.result.items c.loop-lane.laid.items c.in_ok-lay_lane.field-0 c.loop-lane.lane
    so.0 (ap (λ z. z.items) c.replace-own.ensures.value ∙ so.2) c.in_ok-lay_lane.ensures so.3 in (
      omega (arith, so.0, c.push_reserved.ensures.len, c.push_reserved.new.self.ok, c.loop-lane.laid.ok),
      omega (arith, so.1, c.push_reserved.ensures.capacity),
      ap (λ z. z.items) c.replace-own.ensures.after ∙ (c.new.ensures.items ∙ sym (room_behind c.args.first.items c.loop-lane.lane)),
      rw c.push_reserved.ensures.items more,
    )
