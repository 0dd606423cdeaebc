use Rattle.mt_desks.proofs.Prelude.{◌≡◌, List, arith, get_or, Vec, Global, Lane, LaneDesk}
use Rattle.mt_desks.proofs.Swapping.{lane_swaps}
use Rattle.mt_desks.proofs.phases.swap_all.Goals as goal

pub loop-lane-preserved : goal.loop-lane-preserved
loop-lane-preserved g c =
    let items : Vec g.row.P.Denot Global → List g.row.P.Denot = λ row. row.items in
    let passes : Lane (LaneDesk g.row.R.Denot g.row.P.Denot g.row.T.Denot) → List g.row.P.Denot = λ x. x.desk.passes.items in
    let kept : Lane (LaneDesk g.row.R.Denot g.row.P.Denot g.row.T.Denot) → Lane (LaneDesk g.row.R.Denot g.row.P.Denot g.row.T.Denot) → Type 0 = λ x y. y ≡ record x { desk = record x.desk { passes = y.desk.passes } } in
    lane_swaps items passes kept c.args.rows.now c.loop-lane.rows c.swap_lane.new.rows c.args.lanes.now c.loop-lane.lanes c.loop-lane.lane c.index-lanes-lane.result c.swap_lane.new.lane
    (omega (arith, c.loop-lane-test.true)) (λ tree v within. omega (arith, c.requires.rows tree v within, c.loop-lane-test.true, (get_or c.args.rows.now tree v).ok)) c.loop-lane.invariant.0 c.loop-lane.invariant.1 c.swap_lane.ensures.swapped c.swap_lane.ensures.kept
