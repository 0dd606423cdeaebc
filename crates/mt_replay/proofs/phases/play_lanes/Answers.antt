use Rattle.mt_replay.proofs.Prelude.{◌≡◌, ◌+◌, OnOk, length, sym, ap, ◌∙◌, Vec, Global, with_items, on_ok_weaker, HaveGoneBy}
use Rattle.mt_replay.proofs.PlayerGone.{gone_same, manned_of, played_gone, rests_gone}
use Rattle.mt_replay.proofs.Settling.{written_row}
use Rattle.mt_replay.proofs.phases.play_lanes.Given.{Over}
use Rattle.mt_replay.proofs.phases.play_lanes.Goals.{After-run_and_settle}
use Rattle.mt_replay.proofs.phases.play_lanes.Goals as goal

-- the rows of seats behind the phase, and how they and the entries came to be
module _ (g : Over) (c : After-run_and_settle g) where
  abbrev seats : Vec (Vec g.row.P.Denot Global) Global
  seats = with_items c.args.player.now.seats c.run_and_settle.new.seats

  gone : OnOk c.run_and_settle.result (HaveGoneBy g.T.Shared.tree g.P.Passage.knows g.T.Shared.serves (c.args.phase.lanes + 1) c.args.phase.number c.args.phase.lines.now c.args.player.now.trees.items c.args.player.now.seats.items seats.items c.args.player.now.entries.items c.run_and_settle.new.entries.items)
  gone =
      let same : c.run_and_settle.new.seats ≡ seats.items = sym (written_row c.args.player.now.seats c.run_and_settle.new.seats (c.run_and_settle.auto.seats ∙ ap length c.as_mut_slice.ensures.value)) in
      on_ok_weaker c.run_and_settle.result
      (gone_same g.T.Shared.tree g.P.Passage.knows g.T.Shared.serves (c.args.phase.lanes + 1) c.args.phase.number c.args.phase.lines.now c.args.player.now.trees.items c.as_slice.result.now c.args.player.now.seats.items c.as_mut_slice.result.now seats.items c.run_and_settle.new.seats
      c.args.player.now.entries.items c.run_and_settle.new.entries.items c.as_slice.ensures.value c.as_mut_slice.ensures.value same)
      c.run_and_settle.ensures.gone

pub run_and_settle-requires-clause-manned : goal.run_and_settle-requires-clause-manned
run_and_settle-requires-clause-manned g c κs within =
    rw (c.as_slice.ensures.value, c.as_mut_slice.ensures.value) (manned_of g.T.Shared.tree g.P.Passage.knows g.T.Shared.serves g.T.Plays.many c.args.player.now c.args.phase.lanes c.args.phase.number c.args.phase.lines.now c.requires.rest c.requires.passes)

pub returns-clause-rest : goal.returns-clause-rest
returns-clause-rest g c =
    let at = (goal.at.returns-clause-rest g c).After-run_and_settle in
    on_ok_weaker c.run_and_settle.result (rests_gone g.T.Shared.tree g.P.Passage.knows g.T.Shared.serves g.T.Plays.many c.args.player.now c.args.phase.lanes c.args.phase.number c.args.phase.lines.now c.requires.rest c.requires.passes (seats g at) c.run_and_settle.new.entries) (gone g at)

pub returns-clause-played : goal.returns-clause-played
returns-clause-played g c =
    let at = (goal.at.returns-clause-played g c).After-run_and_settle in
    on_ok_weaker c.run_and_settle.result (played_gone g.T.Shared.tree g.P.Passage.knows g.T.Shared.serves g.T.Plays.many c.args.player.now c.args.phase.lanes c.args.phase.number c.args.phase.lines.now c.requires.rest c.requires.passes (seats g at) c.run_and_settle.new.entries) (gone g at)
