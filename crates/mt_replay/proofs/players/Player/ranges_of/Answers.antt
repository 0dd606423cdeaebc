use Rattle.mt_replay.proofs.Prelude.{◌≡◌, map, last_map, seen_by, tracked_of, HasRanges, player_state}
use Rattle.mt_replay.proofs.Seating.{if_ok, stands, rests_again}
use Rattle.mt_replay.proofs.players.Player.ranges_of.Goals as goal

pub list_settled-requires-clause-all : goal.list_settled-requires-clause-all
list_settled-requires-clause-all g c κs lives = (stands g.T.Shared.tree g.P.Passage.knows g.T.Shared.serves g.T.Plays.many c.args.self.now c.args.number c.index.result.now c.index_mut.result.now c.requires.rest c.requires.declared c.index.ensures c.index_mut.ensures.value).all

pub list_settled-requires-clause-settled : goal.list_settled-requires-clause-settled
list_settled-requires-clause-settled g c κs lives = (stands g.T.Shared.tree g.P.Passage.knows g.T.Shared.serves g.T.Plays.many c.args.self.now c.args.number c.index.result.now c.index_mut.result.now c.requires.rest c.requires.declared c.index.ensures c.index_mut.ensures.value).settled

pub returns-clause-rest : goal.returns-clause-rest
returns-clause-rest g c = (rests_again g.T.Shared.tree g.P.Passage.knows g.T.Shared.serves g.T.Plays.many c.args.self.now c.args.number c.index.result.now c.index_mut.result.now c.list_settled.new.row c.requires.rest c.requires.declared c.index.ensures c.index_mut.ensures.value c.list_settled.ensures.all c.list_settled.ensures.stays).0

pub returns-clause-stays : goal.returns-clause-stays
returns-clause-stays g c = (rests_again g.T.Shared.tree g.P.Passage.knows g.T.Shared.serves g.T.Plays.many c.args.self.now c.args.number c.index.result.now c.index_mut.result.now c.list_settled.new.row c.requires.rest c.requires.declared c.index.ensures c.index_mut.ensures.value c.list_settled.ensures.all c.list_settled.ensures.stays).1

pub returns-clause-ranges : goal.returns-clause-ranges
returns-clause-ranges g c =
    let s = stands g.T.Shared.tree g.P.Passage.knows g.T.Shared.serves g.T.Plays.many c.args.self.now c.args.number c.index.result.now c.index_mut.result.now c.requires.rest c.requires.declared c.index.ensures c.index_mut.ensures.value in
    let t = g.T.Shared.tree c.index.result.now in
    let passes = map g.P.Passage.knows c.index_mut.result.now.items in
    if_ok (λ v. v.items ≡ last_map (seen_by t.history passes))
    (λ v. HasRanges (player_state g.T.Shared.tree g.P.Passage.knows c.args.self.now) c.args.number (λ ranges. v.items ≡ ranges))
    c.list_settled.result
    (λ v is. record { tree = tracked_of t passes; tree_is = s.is; holds = is })
    c.list_settled.ensures.ranges
