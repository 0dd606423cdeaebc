use Rattle.mt_replay.proofs.Prelude.{◌≡◌, ◌+◌, arith, length, drop, sym, ◌∙◌, subst, ℕ, into_iter_items, AreMade, kinds_in, player_state}
use Rattle.mt_replay.proofs.Beginning.{all_begun, begun_on}
use Rattle.mt_replay.proofs.Making.{line_made}
use Rattle.mt_replay.proofs.players.Player.begin.Goals as goal

pub declare-requires-clause-made : goal.declare-requires-clause-made
declare-requires-clause-made g c κs lives = (line_made g.T.Shared.tree g.P.Passage.knows g.T.Shared.serves g.T.Plays.many c.loop-line.self.rows c.loop-line.self.passes c.args.lines.now c.loop-line.line-index c.line-item.result (into_iter_items c.loop-line.made) (omega (arith, c.loop-line-test.true)) c.line-item.is c.loop-line.invariant.made).0

pub loop-line-preserved : goal.loop-line-preserved
loop-line-preserved g c =
    let old = player_state g.T.Shared.tree g.P.Passage.knows c.args.self.now in
    let p = player_state g.T.Shared.tree g.P.Passage.knows c.loop-line.self in
    let new = player_state g.T.Shared.tree g.P.Passage.knows c.declare.new.self in
    let begun = begun_on c.args.lines.now c.loop-line.line-index (length c.loop-line.self.trees.items) c.line-item.result old p (omega (arith, c.loop-line-test.true)) c.line-item.is c.loop-line.invariant.begun
    new (length c.declare.new.self.trees.items) c.in_ok-declare.ensures.begins c.in_ok-declare.ensures.count in
    let made = (line_made g.T.Shared.tree g.P.Passage.knows g.T.Shared.serves g.T.Plays.many c.loop-line.self.rows c.loop-line.self.passes c.args.lines.now c.loop-line.line-index c.line-item.result (into_iter_items c.loop-line.made) (omega (arith, c.loop-line-test.true)) c.line-item.is c.loop-line.invariant.made).1 in
    let rows : c.loop-line.self.rows ≡ c.declare.new.self.rows = c.loop-line.invariant.begun.rows ∙ sym begun.rows in
    let passes : c.loop-line.self.passes ≡ c.declare.new.self.passes = c.loop-line.invariant.begun.passes ∙ sym begun.passes in
    record {
      rest = c.in_ok-declare.ensures.rest;
      begun = begun;
      made = subst (λ (z : ℕ × ℕ). AreMade g.T.Shared.tree g.P.Passage.knows g.T.Shared.serves g.T.Plays.many z.0 z.1 (kinds_in (drop (c.loop-line.line-index + 1) c.args.lines.now)) (into_iter_items c.declare.new.made)) (λ i. (rows i, passes i))
          (rw (c.in_ok-declare.ensures.left) made);
    }

pub returns-clause-begun : goal.returns-clause-begun
returns-clause-begun g c = all_begun c.args.lines.now c.loop-line.line-index (length c.loop-line.self.trees.items) (player_state g.T.Shared.tree g.P.Passage.knows c.args.self.now) (player_state g.T.Shared.tree g.P.Passage.knows c.loop-line.self) c.loop-line-test.false c.loop-line.invariant.begun
