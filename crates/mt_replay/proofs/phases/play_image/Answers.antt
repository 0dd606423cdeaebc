use Rattle.mt_replay.proofs.Prelude.{length, IsImageOfRun, HasImage, player_state}
use Rattle.mt_replay.proofs.Imaging.{image_of_run, some_tree}
use Rattle.mt_replay.proofs.PlayerGone.{tracked_count}
use Rattle.mt_replay.proofs.Seating.{if_ok}
use Rattle.mt_replay.proofs.phases.play_image.Goals as goal

pub image_of-requires-clause-declared : goal.image_of-requires-clause-declared
image_of-requires-clause-declared g c κs lives =
    let p = c.in_ok-player.player in
    let (phase, played) = c.in_ok-player.ensures.played in
    some_tree phase c.args.log.now.lines (player_state g.T.Shared.tree g.P.Passage.knows p) (length p.trees.items) played
    (tracked_count g.T.Shared.tree g.P.Passage.knows g.T.Shared.serves g.T.Plays.many p c.in_ok-player.ensures.rest) c.requires.tree

pub returns-clause-image : goal.returns-clause-image
returns-clause-image g c =
    let p = c.in_ok-player.player in
    let (phase, played) = c.in_ok-player.ensures.played in
    if_ok (λ bytes. HasImage (player_state g.T.Shared.tree g.P.Passage.knows p) 0 bytes.items) (λ bytes. IsImageOfRun c.args.rows c.args.log.now bytes.items) c.image_of.result
    (λ bytes has. image_of_run c.args.log.now c.args.rows phase (player_state g.T.Shared.tree g.P.Passage.knows p) bytes.items c.in_ok-player.ensures.rows played has)
    c.image_of.ensures
