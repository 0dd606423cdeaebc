use Rattle.mt_replay.proofs.Prelude.{refl, ap, ◌∙◌, trees_of, player_state}
use Rattle.mt_replay.proofs.LogPhases.{run_of}
use Rattle.mt_replay.proofs.phases.play.Goals as goal

pub returns-clause-run : goal.returns-clause-run
returns-clause-run g c =
    let (phase, played) = c.in_ok-player.ensures.played in
    run_of c.args.log.now c.args.log.now.lines c.args.rows phase (record { version = c.args.log.now.version; entries = c.new.result; lists = c.new-2.result }) (player_state g.T.Shared.tree g.P.Passage.knows c.in_ok-player.player)
    refl c.in_ok-player.ensures.rows played refl
    (c.new.ensures ∙ ap (λ z. z.items) c.in_ok-lists.ensures.entries)
    (λ known. c.new-2.ensures ∙ c.in_ok-lists.ensures.lists (trees_of c.args.log.now.lines) known)
