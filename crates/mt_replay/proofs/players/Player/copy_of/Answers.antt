use Rattle.mt_replay.proofs.Prelude.{◌≡◌, IfOk, map, subst, last_map, AreAll, IsNewTree, seen_by, IsCopyIn, player_state}
use Rattle.mt_replay.proofs.Seating.{if_ok, stands, rests_again, copy_in}
use Rattle.mt_replay.proofs.players.Player.copy_of.Goals as goal

pub copy_settled-requires-clause-all : goal.copy_settled-requires-clause-all
copy_settled-requires-clause-all g c κs lives = (stands g.T.Shared.tree g.P.Passage.knows g.T.Shared.serves g.T.Plays.many c.args.self.now c.args.number c.index.result.now c.index_mut.result.now c.requires.rest c.requires.declared c.index.ensures c.index_mut.ensures.value).all

pub copy_settled-requires-clause-settled : goal.copy_settled-requires-clause-settled
copy_settled-requires-clause-settled g c κs lives = (stands g.T.Shared.tree g.P.Passage.knows g.T.Shared.serves g.T.Plays.many c.args.self.now c.args.number c.index.result.now c.index_mut.result.now c.requires.rest c.requires.declared c.index.ensures c.index_mut.ensures.value).settled

pub returns-clause-rest : goal.returns-clause-rest
returns-clause-rest g c = (rests_again g.T.Shared.tree g.P.Passage.knows g.T.Shared.serves g.T.Plays.many c.args.self.now c.args.number c.index.result.now c.index_mut.result.now c.copy_settled.new.row c.requires.rest c.requires.declared c.index.ensures c.index_mut.ensures.value c.copy_settled.ensures.all c.copy_settled.ensures.stays).0

pub returns-clause-stays : goal.returns-clause-stays
returns-clause-stays g c = (rests_again g.T.Shared.tree g.P.Passage.knows g.T.Shared.serves g.T.Plays.many c.args.self.now c.args.number c.index.result.now c.index_mut.result.now c.copy_settled.new.row c.requires.rest c.requires.declared c.index.ensures c.index_mut.ensures.value c.copy_settled.ensures.all c.copy_settled.ensures.stays).1

pub returns-clause-new : goal.returns-clause-new
returns-clause-new g c =
    let s = stands g.T.Shared.tree g.P.Passage.knows g.T.Shared.serves g.T.Plays.many c.args.self.now c.args.number c.index.result.now c.index_mut.result.now c.requires.rest c.requires.declared c.index.ensures c.index_mut.ensures.value in
    let t = g.T.Shared.tree c.index.result.now in
    let row = c.index_mut.result.now in
    if_ok (λ made. IsNewTree t.history.kind t.history.rows (last_map (seen_by t.history (map g.P.Passage.knows row.items))) (g.T.Plays.many c.index.result.now) (g.T.Shared.tree made.0) (map g.P.Passage.knows made.1.items))
    (λ made. IsCopyIn (player_state g.T.Shared.tree g.P.Passage.knows c.args.self.now) c.args.number (g.T.Shared.tree made.0) (map g.P.Passage.knows made.1.items))
    c.copy_settled.result
    (λ made new. copy_in g.T.Shared.tree g.P.Passage.knows g.T.Shared.serves g.T.Plays.many c.args.self.now c.args.number c.index.result.now row (g.T.Shared.tree made.0) (map g.P.Passage.knows made.1.items) s new)
    c.copy_settled.ensures.new

pub returns-clause-all : goal.returns-clause-all
returns-clause-all g c = subst (λ n. IfOk c.copy_settled.result (λ made. AreAll g.P.Passage.knows g.T.Shared.serves n made.0 made.1.items)) (stands g.T.Shared.tree g.P.Passage.knows g.T.Shared.serves g.T.Plays.many c.args.self.now c.args.number c.index.result.now c.index_mut.result.now c.requires.rest c.requires.declared c.index.ensures c.index_mut.ensures.value).many_is c.copy_settled.ensures.new_all

pub returns-clause-many : goal.returns-clause-many
returns-clause-many g c = subst (λ n. IfOk c.copy_settled.result (λ made. g.T.Plays.many made.0 ≡ n)) (stands g.T.Shared.tree g.P.Passage.knows g.T.Shared.serves g.T.Plays.many c.args.self.now c.args.number c.index.result.now c.index_mut.result.now c.requires.rest c.requires.declared c.index.ensures c.index_mut.ensures.value).many_is c.copy_settled.ensures.many
