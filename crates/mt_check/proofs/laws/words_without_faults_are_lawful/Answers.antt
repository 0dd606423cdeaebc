use Rattle.mt_check.proofs.Sound.{sound}
use Rattle.mt_check.proofs.Complete.{complete}
use Rattle.mt_check.proofs.laws.words_without_faults_are_lawful.Goals as goal

pub returns-clause-sound : goal.returns-clause-sound
returns-clause-sound c t none = sound t none

pub returns-clause-complete : goal.returns-clause-complete
returns-clause-complete c t lawful = complete t lawful
