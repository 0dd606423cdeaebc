use Rattle.mt_desks.proofs.Prelude.{◌≡◌, ◌<◌, ℕ, List, length, arith, ap, ◌∙◌, get_or, Vec, Global, Lane, LaneDesk, LaneRan, StillManned}
use Rattle.mt_desks.proofs.Going.{can_run, has_run, lane_goes, shown, still_passes}
use Rattle.mt_desks.proofs.phases.run_phase.Given.{Over}
use Rattle.mt_desks.proofs.phases.run_phase.Goals.{After-swap_all, After-run_lanes}
use Rattle.mt_desks.proofs.phases.run_phase.Goals as goal

-- A lane's desk has a pass of each tree once the rows of passes are dealt out.
module _ (g : Over) (c : After-swap_all g) (i : ℕ) (d : Lane (LaneDesk g.row.R.Denot g.row.P.Denot g.row.T.Denot)) (here : i < length c.args.lanes.now) where
  abbrev l : Lane (LaneDesk g.row.R.Denot g.row.P.Denot g.row.T.Denot)
  l = get_or c.args.lanes.now i d

  abbrev m : Lane (LaneDesk g.row.R.Denot g.row.P.Denot g.row.T.Denot)
  m = get_or c.swap_all.new.lanes i d

  count : length m.desk.passes.items ≡ length c.args.rows.now
  count = let s = c.swap_all.ensures.swapped in omega (arith, s.wide i d, (c.requires.laid i d here).passes_of, (c.requires.passes i d here).count, l.desk.passes.ok)

-- It has run, and has them still.
module _ (g : Over) (c : After-run_lanes g) (i : ℕ) (d : Lane (LaneDesk g.row.R.Denot g.row.P.Denot g.row.T.Denot)) (here : i < length c.args.lanes.now) (many : length (get_or c.swap_all.new.lanes i d).desk.passes.items ≡ length c.args.rows.now) where
  abbrev n : Lane (LaneDesk g.row.R.Denot g.row.P.Denot g.row.T.Denot)
  n = get_or c.run_lanes.new.lanes i d

  ran : LaneRan (get_or c.args.lanes.now i d).steps (shown g.T.Shared.tree g.P.Passage.knows (get_or c.swap_all.new.lanes i d).desk) (shown g.T.Shared.tree g.P.Passage.knows n.desk)
      × StillManned g.P.Passage.knows g.T.Shared.serves (get_or c.swap_all.new.lanes i d).desk.trees.now n.desk.trees.now n.desk.passes.items
  ran =
      let s = c.swap_all.ensures.swapped in
      let items : Vec g.row.P.Denot Global → List g.row.P.Denot = λ row. row.items in
      has_run g.T.Shared.tree g.P.Passage.knows g.T.Shared.serves items i c.args.rows.now (get_or c.args.lanes.now i d) (get_or c.swap_all.new.lanes i d) n (c.swap_all.ensures.kept i d here) (c.requires.passes i d here) many
      (λ tree v p within. s.out tree i v d p within here) (c.run_lanes.ensures i d (omega (arith, here, s.lane_count))).desk

  still_many : length n.desk.passes.items ≡ length c.args.rows.now
  still_many = omega (arith, ran.1.manned.count, ap length ran.1.trees_stay, ap (λ (z : Lane (LaneDesk g.row.R.Denot g.row.P.Denot g.row.T.Denot)). length z.desk.trees.now) (c.swap_all.ensures.kept i d here), (c.requires.passes i d here).count)

pub run_lanes-requires-after_bounds : goal.run_lanes-requires-after_bounds
run_lanes-requires-after_bounds g c κs within = λ i d below.
    let items : Vec g.row.P.Denot Global → List g.row.P.Denot = λ row. row.items in
    let s = c.swap_all.ensures.swapped in
    let here : i < length c.args.lanes.now = omega (arith, below, s.lane_count) in
    can_run g.P.Passage.knows g.T.Shared.serves items i c.args.rows.now (get_or c.args.lanes.now i d) (get_or c.swap_all.new.lanes i d) (c.swap_all.ensures.kept i d here) (c.requires.laid i d here) (c.requires.passes i d here)
    (count g (goal.at.run_lanes-requires-after_bounds g c).After-swap_all i d here) (λ tree v p within. s.out tree i v d p within here)

pub swap_all-requires-2-clause-desks : goal.swap_all-requires-2-clause-desks
swap_all-requires-2-clause-desks g c = λ i d below.
    let s = c.swap_all.ensures.swapped in
    let here : i < length c.args.lanes.now = omega (arith, below, s.lane_count, c.run_lanes.auto.lanes) in
    let at = goal.at.swap_all-requires-2-clause-desks g c in
    omega (arith, still_many g at.After-run_lanes i d here (count g at.After-swap_all i d here), s.count, (get_or c.run_lanes.new.lanes i d).desk.passes.ok)

pub returns-clause-went : goal.returns-clause-went
returns-clause-went g c = λ i d here.
    let items : Vec g.row.P.Denot Global → List g.row.P.Denot = λ row. row.items in
    let s = c.swap_all.ensures.swapped in
    let there : i < length c.run_lanes.new.lanes = omega (arith, here, s.lane_count, c.run_lanes.auto.lanes) in
    let at = goal.at.returns-clause-went g c in
    let many = count g at.After-swap_all i d here in
    lane_goes g.T.Shared.tree g.P.Passage.knows items i c.args.rows.now c.swap_all-2.new.rows (get_or c.args.lanes.now i d) (get_or c.swap_all.new.lanes i d) (get_or c.run_lanes.new.lanes i d) (get_or c.swap_all-2.new.lanes i d)
    (c.swap_all.ensures.kept i d here) (c.swap_all-2.ensures.kept i d there) (ran g at.After-run_lanes i d here many).0 many (still_many g at.After-run_lanes i d here many)
    (λ tree v p within. s.out tree i v d p within here)
    (λ tree v p within. c.swap_all-2.ensures.swapped.back tree i v d p (omega (arith, within, s.count)) there)

pub returns-clause-passes : goal.returns-clause-passes
returns-clause-passes g c = λ i d here.
    let items : Vec g.row.P.Denot Global → List g.row.P.Denot = λ row. row.items in
    let s = c.swap_all.ensures.swapped in
    let t = c.swap_all-2.ensures.swapped in
    let there : i < length c.run_lanes.new.lanes = omega (arith, here, s.lane_count, c.run_lanes.auto.lanes) in
    let at = goal.at.returns-clause-passes g c in
    still_passes g.P.Passage.knows g.T.Shared.serves items i c.args.rows.now c.swap_all-2.new.rows (get_or c.args.lanes.now i d) (get_or c.swap_all.new.lanes i d) (get_or c.run_lanes.new.lanes i d)
    (c.swap_all.ensures.kept i d here) (c.requires.passes i d here) (ran g at.After-run_lanes i d here (count g at.After-swap_all i d here)).1 (t.count ∙ s.count)
    (λ tree v p within. t.back tree i v d p (omega (arith, within, t.count)) there)
