use Rattle.mt_replay.proofs.Prelude.{map, subst, Kind, last_map, IsImageOfMap, tracked_of, HasImage, player_state}
use Rattle.mt_replay.proofs.Seating.{if_ok, seen_kind, stands}
use Rattle.mt_replay.proofs.players.Player.image_of.Goals as goal

pub image_settled-requires-clause-all : goal.image_settled-requires-clause-all
image_settled-requires-clause-all g c κs lives = (stands g.T.Shared.tree g.P.Passage.knows g.T.Shared.serves g.T.Plays.many c.args.self.now c.args.number c.index.result.now c.index_mut.result.now c.requires.rest c.requires.declared c.index.ensures c.index_mut.ensures.value).all

pub image_settled-requires-clause-settled : goal.image_settled-requires-clause-settled
image_settled-requires-clause-settled g c κs lives = (stands g.T.Shared.tree g.P.Passage.knows g.T.Shared.serves g.T.Plays.many c.args.self.now c.args.number c.index.result.now c.index_mut.result.now c.requires.rest c.requires.declared c.index.ensures c.index_mut.ensures.value).settled

pub returns : goal.returns
returns g c =
    let s = stands g.T.Shared.tree g.P.Passage.knows g.T.Shared.serves g.T.Plays.many c.args.self.now c.args.number c.index.result.now c.index_mut.result.now c.requires.rest c.requires.declared c.index.ensures c.index_mut.ensures.value in
    let t = g.T.Shared.tree c.index.result.now in
    let passes = map g.P.Passage.knows c.index_mut.result.now.items in
    let tracked = tracked_of t passes in
    if_ok (λ v. IsImageOfMap t.history.kind (last_map tracked.history) v.items)
    (λ v. HasImage (player_state g.T.Shared.tree g.P.Passage.knows c.args.self.now) c.args.number v.items)
    c.image_settled.result
    (λ v is. record { tree = tracked; tree_is = s.is; image = subst (λ (k : Kind). IsImageOfMap k (last_map tracked.history) v.items) (seen_kind t.history passes) is })
    c.image_settled.ensures.image
