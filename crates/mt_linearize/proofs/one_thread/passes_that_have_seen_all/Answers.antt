use Rattle.mt_linearize.proofs.Informed.{informed_wrote, informed_saw, informed_reads, settled_next}
use Rattle.mt_linearize.proofs.one_thread.passes_that_have_seen_all.Goals as goal

pub returns-clause-wrote : goal.returns-clause-wrote
returns-clause-wrote c = informed_wrote

pub returns-clause-saw : goal.returns-clause-saw
returns-clause-saw c = informed_saw

pub returns-clause-read : goal.returns-clause-read
returns-clause-read c = informed_reads

pub returns-clause-settled : goal.returns-clause-settled
returns-clause-settled c = settled_next
