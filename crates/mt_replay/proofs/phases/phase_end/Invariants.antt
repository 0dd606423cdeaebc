use Rattle.mt_replay.proofs.Prelude.{NoJoinBetween}
use Rattle.mt_replay.proofs.phases.phase_end.Given as goal

abbrev pub invariant-loop-at : goal.invariant-loop-at
invariant-loop-at l = NoJoinBetween l.log l.from l.at
