use Rattle.mt_replay.proofs.Prelude.{◌+◌, ◌<◌, length, arith, ◌∙◌, player_state}
use Rattle.mt_replay.proofs.LogPhases.{behind_join, next_begins, phase_ready}
use Rattle.mt_replay.proofs.Turning.{next_turned}
use Rattle.mt_replay.proofs.phases.play_lines.Goals as goal

pub play_phase-requires-clause-ready : goal.play_phase-requires-clause-ready
play_phase-requires-clause-ready g c κs within =
    phase_ready c.args.log.now c.args.lanes c.loop-from.from c.phase_end-to.result c.loop-from.phase c.requires.readable c.loop-from.invariant.begins c.phase_end-to.ensures.from c.phase_end-to.ensures.within c.phase_end-to.ensures.none c.requires.all_lanes c.requires.count

pub loop-from-preserved : goal.loop-from-preserved
loop-from-preserved g c =
    let ready = phase_ready c.args.log.now c.args.lanes c.loop-from.from c.phase_end-to.result c.loop-from.phase c.requires.readable c.loop-from.invariant.begins c.phase_end-to.ensures.from c.phase_end-to.ensures.within c.phase_end-to.ensures.none c.requires.all_lanes c.requires.count in
    let here : c.phase_end-to.result < length c.args.log.now = omega (arith, c.phase_end-to.ensures.within, c.if-to-log.false) in
    record {
      begins = next_begins c.args.log.now c.loop-from.from c.phase_end-to.result c.loop-from.phase c.loop-from.invariant.begins c.phase_end-to.ensures.from here ready.one (c.phase_end-to.ensures.join here);
      rest = c.in_ok-play_phase.ensures.rest;
      passes = c.in_ok-play_phase.ensures.passes ∙ c.loop-from.invariant.passes;
      rows = c.in_ok-play_phase.ensures.rows ∙ c.loop-from.invariant.rows;
      played = behind_join c.args.log.now c.phase_end-to.result (c.loop-from.phase + 1) (player_state g.T.Shared.tree g.P.Passage.knows c.play_phase.new.player) here (c.phase_end-to.ensures.join here) c.in_ok-play_phase.ensures.played;
      turned = next_turned (g.G.Gate.passed c.args.gate.now) c.args.log.now c.loop-from.from c.phase_end-to.result c.phase_end-to.ensures.from c.phase_end-to.ensures.within c.phase_end-to.ensures.none c.in_ok-play_phase.ensures.turns here (c.phase_end-to.ensures.join here) c.loop-from.invariant.turned;
    }
