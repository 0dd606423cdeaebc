use Rattle.mt_replay.proofs.Settling.{SettledSoFar}
use Rattle.mt_replay.proofs.lanes.settle_all.Given as goal

abbrev pub invariant-loop-at : goal.invariant-loop-at
invariant-loop-at g l = SettledSoFar g.T.Shared.tree g.P.Passage.knows g.T.Shared.serves g.T.Plays.many l.trees l.at l.initial.seats l.seats
