use Rattle.mt_log.proofs.Prelude.{rules}
use Rattle.mt_log.proofs.reader.Reader.add.Goals as goal

pub returns : goal.returns
returns c = search rules
