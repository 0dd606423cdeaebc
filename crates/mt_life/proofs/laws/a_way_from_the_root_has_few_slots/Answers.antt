use Rattle.mt_life.proofs.Fitting.{few_slots_below}
use Rattle.mt_life.proofs.laws.a_way_from_the_root_has_few_slots.Goals as goal

pub returns : goal.returns
returns c = λ kind s e m known. few_slots_below kind s e m known
