use Rattle.mt_replay.proofs.Prelude.{◌≡◌, take, IsBetweenPhases, rows_known, player_state}
use Rattle.mt_replay.proofs.Listing.{listed}
use Rattle.mt_replay.proofs.players.Player.list.Given as goal

-- the trees so far were listed, and the player is as it was in meaning
abbrev pub invariant-loop-at : goal.invariant-loop-at
invariant-loop-at g l =
    let p = player_state g.T.Shared.tree g.P.Passage.knows l.initial.self in
    record {
      rest : IsBetweenPhases g.T.Shared.tree g.P.Passage.knows g.T.Shared.serves g.T.Plays.many l.self;
      kept : l.self ≡ record l.initial.self { seats = l.self.seats };
      stays : rows_known g.P.Passage.knows l.self.seats.items ≡ rows_known g.P.Passage.knows l.initial.self.seats.items;
      lists : l.lists.items ≡ take l.at (listed p.known p.trees);
    }
