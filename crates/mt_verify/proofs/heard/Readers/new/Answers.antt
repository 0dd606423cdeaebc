use Rattle.mt_verify.proofs.FirstReads.{none_read}
use Rattle.mt_verify.proofs.heard.Readers.new.Goals as goal

pub returns : goal.returns
returns c = none_read
