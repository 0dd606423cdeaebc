use Rattle.mt_read.proofs.Windows.{has_begun}
use Rattle.mt_read.proofs.sections.Section.begin.Goals as goal

pub returns-clause-began : goal.returns-clause-began
returns-clause-began g c = has_begun _ _ _ _ c.load_commits-epoch.ensures.told c.open_section.ensures.part
