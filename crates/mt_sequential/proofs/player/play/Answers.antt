use Rattle.mt_sequential.proofs.Prelude.{List, map, refl, ap, ◌∙◌, subst, Line, PlayerState, IsPlayed, listing_of}
use Rattle.mt_sequential.proofs.PlayedLines.{run_of}
use Rattle.mt_sequential.proofs.player.play.Goals as goal

pub returns : goal.returns
returns g c =
    let played : IsPlayed c.args.rows c.args.log.now.lines c.in_ok-player.player = subst (λ (ls : List Line). IsPlayed c.args.rows ls c.in_ok-player.player) c.as_slice.ensures c.in_ok-player.ensures in
    let trees = c.deref_mut.ensures.value ∙ ap (λ (p : PlayerState). p.trees) c.player.view_is in
    run_of c.args.rows c.args.log.now (record { version = c.args.log.now.version; entries = c.new.result; lists = c.new-2.result }) c.in_ok-player.player played refl
    (c.new.ensures ∙ ap (λ (p : PlayerState). p.entries) c.player.view_is)
    (c.new-2.ensures ∙ (c.in_ok-lists.ensures ∙ ap (map listing_of) trees))
