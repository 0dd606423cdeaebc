use Rattle.mt_log.proofs.Prelude.{rules, index_read}
use Rattle.mt_log.proofs.numbers.index_of.Goals as goal

pub returns : goal.returns
unfolding index_read
returns c = search rules
