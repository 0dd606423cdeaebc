use Rattle.mt_replay.proofs.Prelude.{◌≡◌, ◌<◌, List, length, arith, get_or, ap, ◌∙◌, subst, Range, KnownTree, Player, PlayerState, HasRanges, player_state}
use Rattle.mt_replay.proofs.Listing.{all_listed, one_listed}
use Rattle.mt_replay.proofs.Seating.{counts_too, state_stays}
use Rattle.mt_replay.proofs.players.Player.list.Goals as goal

pub loop-at-preserved : goal.loop-at-preserved
loop-at-preserved g c =
    let p : Player g.row.P.Denot g.row.T.Denot = c.args.self.now in
    let q : Player g.row.P.Denot g.row.T.Denot = c.loop-at.self in
    let next : Player g.row.P.Denot g.row.T.Denot = c.ranges_of.new.self in
    let at = c.loop-at.at in
    let known : KnownTree = c.index-known.result.now in
    let so_far = c.loop-at.invariant in
    let kept : next ≡ record p { seats = next.seats } = c.in_ok-ranges.ensures.kept ∙ ap (λ (z : Player g.row.P.Denot g.row.T.Denot). record z { seats = next.seats }) so_far.kept in
    let same : player_state g.T.Shared.tree g.P.Passage.knows q ≡ player_state g.T.Shared.tree g.P.Passage.knows p = state_stays g.T.Shared.tree g.P.Passage.knows g.T.Shared.serves g.T.Plays.many p q (counts_too g.T.Shared.tree g.P.Passage.knows g.T.Shared.serves g.T.Plays.many p q so_far.kept) so_far.stays in
    let has = subst (λ (z : PlayerState). HasRanges z at (λ (rs : List Range). c.in_ok-ranges.ranges.items ≡ rs)) same c.in_ok-ranges.ensures.ranges in
    let within : at < length p.known.items = omega (arith, c.loop-at-test.true, c.len-at-end.ensures, c.requires.seated.names, p.trees.ok.0) in
    let known_is : known ≡ get_or p.known.items at known = c.index-known.ensures ∙ ap (λ (z : Player g.row.P.Denot g.row.T.Denot). get_or z.known.items at known) kept in
    record {
      rest = c.in_ok-ranges.ensures.rest;
      kept = kept;
      stays = c.in_ok-ranges.ensures.stays ∙ so_far.stays;
      lists = c.in_ok-push.ensures.items ∙ one_listed (player_state g.T.Shared.tree g.P.Passage.knows p) at known c.new.result c.loop-at.lists.items within known_is
          (record { tree = has.tree; tree_is = has.tree_is; holds = c.new.ensures ∙ has.holds }) so_far.lists;
    }

pub returns-clause-lists : goal.returns-clause-lists
returns-clause-lists g c = λ declared known.
    let p : Player g.row.P.Denot g.row.T.Denot = c.args.self.now in
    all_listed (player_state g.T.Shared.tree g.P.Passage.knows p) c.loop-at.at c.loop-at.lists.items declared (omega (arith, c.loop-at-test.false, c.len-at-end.ensures, c.requires.seated.names, p.trees.ok.0)) c.loop-at.invariant.lists known
