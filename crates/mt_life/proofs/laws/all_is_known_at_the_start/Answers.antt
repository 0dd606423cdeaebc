use Rattle.mt_life.proofs.Starting.{starts}
use Rattle.mt_life.proofs.laws.all_is_known_at_the_start.Goals as goal

pub returns : goal.returns
returns c = starts
