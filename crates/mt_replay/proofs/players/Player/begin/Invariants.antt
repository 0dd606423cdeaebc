use Rattle.mt_replay.proofs.Prelude.{drop, length, into_iter_items, AreMade, kinds_in, IsBetweenPhases, player_state}
use Rattle.mt_replay.proofs.Beginning.{HasBegun}
use Rattle.mt_replay.proofs.players.Player.begin.Given as goal

-- the lines so far were begun, and the player is at rest; the trees of the lines left are still to come
abbrev pub invariant-loop-line : goal.invariant-loop-line
invariant-loop-line g l = record {
  rest : IsBetweenPhases g.T.Shared.tree g.P.Passage.knows g.T.Shared.serves g.T.Plays.many l.self;
  begun : HasBegun l.lines l.line-index (length l.self.trees.items) (player_state g.T.Shared.tree g.P.Passage.knows l.initial.self) (player_state g.T.Shared.tree g.P.Passage.knows l.self);
  made : AreMade g.T.Shared.tree g.P.Passage.knows g.T.Shared.serves g.T.Plays.many l.self.rows l.self.passes (kinds_in (drop l.line-index l.lines)) (into_iter_items l.made);
}
