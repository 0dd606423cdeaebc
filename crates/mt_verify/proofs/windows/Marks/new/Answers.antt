use Rattle.mt_verify.proofs.Gathered.{marked_none}
use Rattle.mt_verify.proofs.windows.Marks.new.Goals as goal

pub returns-clause-marked : goal.returns-clause-marked
returns-clause-marked c = marked_none c.none-none.result c.none-none.ensures
