use Rattle.mt_replay.proofs.Prelude.{[], ◌∷◌, ◌++◌, length, map, arith, refl, sym, ap, ◌∙◌, subst, slice_get_read, last_map, AreAll, Copies, IsBetweenPhases, player_state}
use Rattle.mt_replay.proofs.Seating.{copies, new_settled}
use Rattle.mt_replay.proofs.players.Player.copy.Given.{Over}
use Rattle.mt_replay.proofs.players.Player.copy.Goals.{In_ok-push-2}
use Rattle.mt_replay.proofs.players.Player.copy.Goals as goal

-- the player once the copy is told: between phases, with a copy more
copied : (g : Over) (c : In_ok-push-2 g) → IsBetweenPhases g.T.Shared.tree g.P.Passage.knows g.T.Shared.serves g.T.Plays.many (record c.push.new.self { entries = c.push-2.new.self })
    × Copies (player_state g.T.Shared.tree g.P.Passage.knows c.args.self.now) (player_state g.T.Shared.tree g.P.Passage.knows (record c.push.new.self { entries = c.push-2.new.self })) c.args.line c.args.from c.args.name
copied g c =
    copies g.T.Shared.tree g.P.Passage.knows g.T.Shared.serves g.T.Plays.many c.args.self.now c.copy_of.new.self c.push.new.self c.push-2.new.self c.args.line c.args.from c.count_settled-count.result c.args.name c.index.result.now c.in_ok-tree.tree c.in_ok-tree.row c.count_settled-count.new.row
    c.copy_of.ensures.rest c.copy_of.ensures.kept c.copy_of.ensures.stays c.in_ok-tree.ensures.new c.count_settled-count.ensures.all c.in_ok-tree.ensures.many c.count_settled-count.ensures.stays
    c.in_ok-push.ensures.kept (c.in_ok-push.ensures.known ∙ ap (λ k. c.copy_of.new.self.known.items ++ k ∷ []) c.renamed-known.ensures) c.in_ok-push.ensures.trees c.in_ok-push.ensures.seats c.in_ok-push.ensures.counts
    (slice_get_read c.args.self.now.known.items (length c.args.self.now.known.items) c.args.from c.index.result.now refl (omega (arith, c.requires.declared, c.requires.rest.seated.names)) c.index.ensures)
    c.count_settled-count.ensures.count c.in_ok-push-2.ensures.items

pub index-requires : goal.index-requires
index-requires g c = omega (arith, c.requires.declared, c.requires.rest.seated.names)

pub count_settled-count-requires-clause-some_pass : goal.count_settled-count-requires-clause-some_pass
count_settled-count-requires-clause-some_pass g c κs lives = omega (arith, c.in_ok-tree.ensures.many, c.requires.rest.seated.some_pass)

pub count_settled-count-requires-clause-all : goal.count_settled-count-requires-clause-all
count_settled-count-requires-clause-all g c κs lives = subst (λ n. AreAll g.P.Passage.knows g.T.Shared.serves n c.in_ok-tree.tree c.in_ok-tree.row.items) (sym c.in_ok-tree.ensures.many) c.in_ok-tree.ensures.all

pub count_settled-count-requires-clause-settled : goal.count_settled-count-requires-clause-settled
count_settled-count-requires-clause-settled g c κs lives =
    let copy = c.in_ok-tree.ensures.new in
    new_settled copy.source.history.kind copy.source.history.rows (last_map copy.source.history) c.args.self.now.passes (g.T.Shared.tree c.in_ok-tree.tree) (map g.P.Passage.knows c.in_ok-tree.row.items) copy.new

pub returns-clause-rest : goal.returns-clause-rest
returns-clause-rest g c = (copied g (goal.at.returns-clause-rest g c).In_ok-push-2).0

pub returns-clause-copies : goal.returns-clause-copies
returns-clause-copies g c = (copied g (goal.at.returns-clause-copies g c).In_ok-push-2).1
