use Rattle.mt_read.proofs.Windows.{has_ended}
use Rattle.mt_read.proofs.sections.Section.end.Goals as goal

pub returns-clause-ended : goal.returns-clause-ended
returns-clause-ended g c = has_ended _ _ _ _ c.load_begun-begun.ensures.told c.close_section.ensures.part
