use Rattle.mt_verify.proofs.ToldHolders.{holders_told}
use Rattle.mt_verify.proofs.laws.the_holders_of_steps_are_told.Goals as goal

pub returns : goal.returns
returns c = holders_told
