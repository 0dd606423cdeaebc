use Rattle.mt_replay.proofs.Prelude.{[], IfOk, arith, refl, subst, into_iter_items, new_tracked, IsMade}
use Rattle.mt_replay.proofs.Making.{first_made, first_there}
use Rattle.mt_replay.proofs.Seating.{rests_with, state_with}
use Rattle.mt_replay.proofs.players.Player.open.Goals as goal

pub unreachable-requires : goal.unreachable-requires
unreachable-requires g c = absurd (omega (arith, c.in_default.ensures.cases.0, c.args.made.now.rest.ok.0, first_there g.T.Shared.tree g.P.Passage.knows g.T.Shared.serves g.T.Plays.many c.args.self.now.rows c.args.self.now.passes c.args.kind (into_iter_items c.args.made.now) c.requires.made))

pub returns-clause-rest : goal.returns-clause-rest
returns-clause-rest g c =
    let p = c.args.self.now in
    let made : IsMade g.T.Shared.tree g.P.Passage.knows g.T.Shared.serves g.T.Plays.many p.rows p.passes c.args.kind (c.in_ok-tree.tree, c.in_ok-tree.row) = subst (λ m. IfOk m (IsMade g.T.Shared.tree g.P.Passage.knows g.T.Shared.serves g.T.Plays.many p.rows p.passes c.args.kind)) c.in_ok-tree.was
    (first_made g.T.Shared.tree g.P.Passage.knows g.T.Shared.serves g.T.Plays.many p.rows p.passes c.args.kind (into_iter_items c.args.made.now) c.in-Some.made (into_iter_items c.next.new.self) c.requires.made c.in-Some.ensures.cases.0) in
    (rests_with g.T.Shared.tree g.P.Passage.knows g.T.Shared.serves g.T.Plays.many p c.push.new.self (record { name = c.args.name; kind = c.args.kind }) c.in_ok-tree.tree c.in_ok-tree.row c.args.kind p.rows [] (record { calls = 0; ranges = 0 }) c.requires.rest c.in_ok-push.ensures.kept c.in_ok-push.ensures.known c.in_ok-push.ensures.trees c.in_ok-push.ensures.seats c.in_ok-push.ensures.counts (record { calls = omega arith; ranges = refl }) made.new made.all made.many_are).0

pub returns-clause-opens : goal.returns-clause-opens
returns-clause-opens g c =
    let p = c.args.self.now in
    let made : IsMade g.T.Shared.tree g.P.Passage.knows g.T.Shared.serves g.T.Plays.many p.rows p.passes c.args.kind (c.in_ok-tree.tree, c.in_ok-tree.row) = subst (λ m. IfOk m (IsMade g.T.Shared.tree g.P.Passage.knows g.T.Shared.serves g.T.Plays.many p.rows p.passes c.args.kind)) c.in_ok-tree.was
    (first_made g.T.Shared.tree g.P.Passage.knows g.T.Shared.serves g.T.Plays.many p.rows p.passes c.args.kind (into_iter_items c.args.made.now) c.in-Some.made (into_iter_items c.next.new.self) c.requires.made c.in-Some.ensures.cases.0) in
    state_with g.T.Shared.tree g.P.Passage.knows g.T.Shared.serves g.T.Plays.many p c.push.new.self (record { name = c.args.name; kind = c.args.kind }) (new_tracked p.passes p.rows c.args.kind []) c.in_ok-push.ensures.kept c.in_ok-push.ensures.known
    (rests_with g.T.Shared.tree g.P.Passage.knows g.T.Shared.serves g.T.Plays.many p c.push.new.self (record { name = c.args.name; kind = c.args.kind }) c.in_ok-tree.tree c.in_ok-tree.row c.args.kind p.rows [] (record { calls = 0; ranges = 0 }) c.requires.rest c.in_ok-push.ensures.kept c.in_ok-push.ensures.known c.in_ok-push.ensures.trees c.in_ok-push.ensures.seats c.in_ok-push.ensures.counts (record { calls = omega arith; ranges = refl }) made.new made.all made.many_are).1
