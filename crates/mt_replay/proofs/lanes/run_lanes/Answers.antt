use Rattle.mt_replay.proofs.Prelude.{◌≡◌, ◌+◌, ℕ, OnOk, length, map, ap, ◌∙◌, eq-eqb, ne_eqb, on_ok_weaker, AreLanesFor, AreManned, HaveRun, rows_known}
use Rattle.mt_replay.proofs.LanesGone.{lanes_gone, ok_from}
use Rattle.mt_replay.proofs.Manning.{lanes_laid, lanes_pass, rows_wide}
use Rattle.mt_replay.proofs.Settling.{written_row}
use Rattle.mt_replay.proofs.Turning.{lanes_turned}
use Rattle.mt_replay.proofs.lanes.run_lanes.Given.{Over}
use Rattle.mt_replay.proofs.lanes.run_lanes.Goals.{After-as_mut_slice, After-tell}
use Rattle.mt_replay.proofs.lanes.run_lanes.Goals as goal

-- the lanes before they run, as they were laid
module _ (g : Over) (c : After-as_mut_slice g) where
  count : length c.as_mut_slice.result.now ≡ c.args.phase.lanes
  count = ap length c.as_mut_slice.ensures.value ∙ c.in_ok-laid.ensures.count

  laid : AreLanesFor c.args.trees.now c.args.phase.number c.args.phase.lines.now c.first_room-first.result.items c.as_mut_slice.result.now
  laid = rw c.as_mut_slice.ensures.value c.in_ok-laid.ensures.laid

-- what they have done once it is told
gone : (g : Over) (c : After-tell g) → length c.as_mut_slice.result.now ≡ c.args.phase.lanes → AreLanesFor c.args.trees.now c.args.phase.number c.args.phase.lines.now c.first_room-first.result.items c.as_mut_slice.result.now
    → OnOk c.tell.result (AreManned g.P.Passage.knows g.T.Shared.serves (c.args.phase.lanes + 1) c.args.trees.now c.run_phase.new.rows
    × HaveRun c.args.phase.number c.args.phase.lines.now (map g.T.Shared.tree c.args.trees.now) (rows_known g.P.Passage.knows c.args.seats.now) (rows_known g.P.Passage.knows c.run_phase.new.rows) c.args.entries.now.items c.tell.new.entries.items)
gone g c count_is laid_as =
    let lanes : ℕ = c.args.phase.lanes in
    ok_from c.tell.result (λ alone together. lanes_gone g.T.Shared.tree g.P.Passage.knows g.T.Shared.serves lanes c.args.phase.number c.args.phase.lines.now c.args.trees.now c.args.seats.now c.run_phase.new.rows
    c.first_room-first.result.items c.args.entries.now.items c.reserve_all.new.entries.items c.tell.new.entries.items c.as_mut_slice.result.now c.run_phase.new.lanes c.as_mut_slice-2.result.now
    c.requires.manned c.requires.can count_is laid_as c.run_phase.ensures.went c.run_phase.ensures.passes c.run_phase.ensures.count c.run_phase.ensures.long c.run_phase.ensures.others c.run_phase.auto.lanes
    (c.as_mut_slice-2.ensures.value ∙ written_row c.in_ok-laid.laid c.run_phase.new.lanes (c.run_phase.auto.lanes ∙ ap length c.as_mut_slice.ensures.value))
    (λ one. c.first_room-first.ensures.alone (eq-eqb lanes 1 one)) (λ several. c.first_room-first.ensures.empty (ne_eqb lanes 1 several)) alone together (λ several. c.in_ok-reserve_all.ensures ∙ c.first_room-first.ensures.kept (ne_eqb lanes 1 several))) c.tell.ensures.alone c.tell.ensures.together

pub run_phase-requires-clause-rows : goal.run_phase-requires-clause-rows
run_phase-requires-clause-rows g c κs within = let at = (goal.at.run_phase-requires-clause-rows g c).After-as_mut_slice in rows_wide _ _ _ _ _ _ _ _ c.as_mut_slice.result.now c.requires.manned c.requires.can (count g at) (laid g at)

pub run_phase-requires-clause-laid : goal.run_phase-requires-clause-laid
run_phase-requires-clause-laid g c κs within = let at = (goal.at.run_phase-requires-clause-laid g c).After-as_mut_slice in lanes_laid _ _ _ _ _ _ _ _ c.as_mut_slice.result.now c.requires.manned c.requires.can (count g at) (laid g at)

pub run_phase-requires-clause-passes : goal.run_phase-requires-clause-passes
run_phase-requires-clause-passes g c κs within = let at = (goal.at.run_phase-requires-clause-passes g c).After-as_mut_slice in lanes_pass _ _ _ _ _ _ _ _ c.as_mut_slice.result.now c.requires.manned c.requires.can (count g at) (laid g at)

pub returns-clause-manned : goal.returns-clause-manned
returns-clause-manned g c =
    let at = goal.at.returns-clause-manned g c in
    on_ok_weaker c.tell.result (λ done. done.0) (gone g at.After-tell (count g at.After-as_mut_slice) (laid g at.After-as_mut_slice))

pub returns-clause-run : goal.returns-clause-run
returns-clause-run g c =
    let at = goal.at.returns-clause-run g c in
    on_ok_weaker c.tell.result (λ done. done.1) (gone g at.After-tell (count g at.After-as_mut_slice) (laid g at.After-as_mut_slice))

pub returns-clause-turns : goal.returns-clause-turns
returns-clause-turns g c =
    let at = (goal.at.returns-clause-turns g c).After-as_mut_slice in
    ok_from c.tell.result (λ alone together. lanes_turned (g.G.Gate.passed c.args.gate.now) c.args.phase.lanes c.args.phase.number c.args.phase.lines.now c.args.trees.now c.first_room-first.result.items c.as_mut_slice.result.now c.run_phase.new.lanes
    c.requires.can.lanes_are (count g at) (laid g at) c.run_phase.ensures.turns) c.tell.ensures.alone c.tell.ensures.together
