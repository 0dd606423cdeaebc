use Rattle.mt_replay.proofs.Prelude.{arith}
use Rattle.mt_replay.proofs.LogPhases.{log_lanes}
use Rattle.mt_replay.proofs.phases.lanes_of.Goals as goal

pub overflow_cast-result : goal.overflow_cast-result
overflow_cast-result c = omega (arith, c.lanes_in.ensures, (log_lanes c.args.lines.now c.requires).1)

pub returns-clause-some : goal.returns-clause-some
returns-clause-some c = omega (arith, c.lanes_in.ensures, (log_lanes c.args.lines.now c.requires).0)

pub returns-clause-few : goal.returns-clause-few
returns-clause-few c = omega (arith, c.lanes_in.ensures, (log_lanes c.args.lines.now c.requires).1)
