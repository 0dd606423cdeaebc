use Rattle.mt_engine.proofs.Slots.{slot_tells}
use Rattle.mt_engine.proofs.laws.a_slot_has_what_the_map_has.Goals as goal

pub returns : goal.returns
returns c = slot_tells
