use Rattle.mt_replay.proofs.Prelude.{ℕ, ◌+◌, get_or, sym, subst, AreAll, rows_known}
use Rattle.mt_replay.proofs.PlayerGone.{manned_settled}
use Rattle.mt_replay.proofs.lanes.run_and_settle.Goals as goal

pub returns-clause-gone : goal.returns-clause-gone
returns-clause-gone g c = record {
  between = rows_known g.P.Passage.knows c.run_lanes.new.seats;
  run = c.in_ok-run_lanes.ensures.run;
  settled = c.settle_all.ensures.settled;
  manned = manned_settled g.T.Shared.tree g.P.Passage.knows g.T.Shared.serves g.T.Plays.many (c.args.phase.lanes + 1) c.args.trees.now c.run_lanes.new.seats c.settle_all.new.seats c.requires.many c.in_ok-run_lanes.ensures.manned c.settle_all.ensures.settled c.settle_all.ensures.all;
}

pub settle_all-requires-clause-all : goal.settle_all-requires-clause-all
settle_all-requires-clause-all g c κs lives = λ at t row within. subst (λ (n : ℕ). AreAll g.P.Passage.knows g.T.Shared.serves n (get_or c.args.trees.now at t) (get_or c.run_lanes.new.seats at row).items) (sym (c.requires.many at t within)) (c.in_ok-run_lanes.ensures.manned.all at t row within)
