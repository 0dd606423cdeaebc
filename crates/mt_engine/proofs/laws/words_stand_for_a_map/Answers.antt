use Rattle.mt_engine.proofs.Slots.{tree_map}
use Rattle.mt_engine.proofs.laws.words_stand_for_a_map.Goals as goal

pub returns : goal.returns
returns c = tree_map
