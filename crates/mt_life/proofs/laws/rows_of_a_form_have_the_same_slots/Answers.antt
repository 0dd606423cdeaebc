use Rattle.mt_life.proofs.Slots.{span_in_slot, slot_of_form, hole_of_form}
use Rattle.mt_life.proofs.laws.rows_of_a_form_have_the_same_slots.Goals as goal

pub returns : goal.returns
returns c = record { word = span_in_slot; slot = slot_of_form; hole = hole_of_form }
