use Rattle.mt_replay.proofs.Prelude.{◌≡◌, ◌+◌, ◌-◌, drop, length, take, IsBetweenPhases, IsPlayed, player_state, AllTurned}
use Rattle.mt_replay.proofs.LogPhases.{BeginsAt}
use Rattle.mt_replay.proofs.phases.play_lines.Given as goal

abbrev pub invariant-loop-from : goal.invariant-loop-from
invariant-loop-from g l = record {
  begins : BeginsAt l.log l.from l.phase;
  rest : IsBetweenPhases g.T.Shared.tree g.P.Passage.knows g.T.Shared.serves g.T.Plays.many l.player;
  passes : l.player.passes ≡ l.lanes + 1;
  rows : l.player.rows ≡ l.initial.player.rows;
  played : IsPlayed l.phase (take l.from l.log) (player_state g.T.Shared.tree g.P.Passage.knows l.player);
  turned : AllTurned (g.G.Gate.passed l.gate) (drop l.from l.log) → AllTurned (g.G.Gate.passed l.gate) l.log;
}

abbrev pub decreases-loop-from : goal.decreases-loop-from
decreases-loop-from g l = length l.log - l.from
