use Rattle.mt_verify.proofs.ToldLooks.{looks_are_told}
use Rattle.mt_verify.proofs.laws.the_looks_of_steps_are_told.Goals as goal

pub returns : goal.returns
returns c = looks_are_told
