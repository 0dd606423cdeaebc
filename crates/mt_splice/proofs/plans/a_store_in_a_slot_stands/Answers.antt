use Rattle.mt_splice.proofs.SlotStores.{stand_in_slot}
use Rattle.mt_splice.proofs.plans.a_store_in_a_slot_stands.Goals as goal

pub returns : goal.returns
returns c = λ start words is_new beside stands has levels i depth h within high word taken gone. stand_in_slot beside stands has levels i depth h within high word
