use Rattle.mt_replay.proofs.Prelude.{◌+◌, List, length, take, slice_range, subst, on_ok_weaker, Line, IsPlayed, player_state}
use Rattle.mt_replay.proofs.LogPhases.{can_do, front_and_phase}
use Rattle.mt_replay.proofs.PlayerGone.{tracked_count}
use Rattle.mt_replay.proofs.phases.play_phase.Goals as goal

pub play_lanes-requires-clause-can : goal.play_lanes-requires-clause-can
play_lanes-requires-clause-can g c κs within =
    let front : List Line = take c.args.place.from c.args.log.now in
    let lines : List Line = slice_range c.args.log.now c.args.place.from c.args.place.to in
    can_do c.args.place.lanes c.args.place.number front lines (player_state g.T.Shared.tree g.P.Passage.knows c.begin.new.self) c.requires.played.0 (length c.begin.new.self.trees.items) c.requires.lanes.0 c.requires.lanes.1 c.requires.ready
    (c.in_ok-begin.ensures.begun c.args.place.number front c.requires.played.0 c.requires.ready.phase_is c.requires.ready.one c.requires.played.1)
    (tracked_count g.T.Shared.tree g.P.Passage.knows g.T.Shared.serves g.T.Plays.many c.begin.new.self c.in_ok-begin.ensures.rest)

pub returns-clause-played : goal.returns-clause-played
returns-clause-played g c =
    let front : List Line = take c.args.place.from c.args.log.now in
    let lines : List Line = slice_range c.args.log.now c.args.place.from c.args.place.to in
    on_ok_weaker c.play_lanes.result
    (λ played. subst (λ (z : List Line). IsPlayed (c.args.place.number + 1) z (player_state g.T.Shared.tree g.P.Passage.knows c.play_lanes.new.player)) (front_and_phase c.args.log.now c.args.place.from c.args.place.to c.requires.within.0 c.requires.within.1)
    (played front c.requires.played.0 c.requires.ready (c.in_ok-begin.ensures.begun c.args.place.number front c.requires.played.0 c.requires.ready.phase_is c.requires.ready.one c.requires.played.1)))
    c.play_lanes.ensures.played
