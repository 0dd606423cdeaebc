use Rattle.mt_splice.proofs.Looks.{left_goes, right_goes, right_above, left_number, right_number, left_slot_low, more_behind, none_behind}
use Rattle.mt_splice.proofs.gathers.gather_above.Goals as goal

pub window_on-window-requires-clause-left : goal.window_on-window-requires-clause-left
window_on-window-requires-clause-left g c = left_goes c.requires

pub window_on-window-requires-clause-right : goal.window_on-window-requires-clause-right
window_on-window-requires-clause-right g c = right_above c.requires

pub step_on-last-requires : goal.step_on-last-requires
step_on-last-requires g c = right_goes c.requires

pub gather-requires-clause-left_row : goal.gather-requires-clause-left_row
gather-requires-clause-left_row g c = rw c.window_on-window.ensures.first (left_number c.requires)

pub gather-requires-clause-right_row : goal.gather-requires-clause-right_row
gather-requires-clause-right_row g c = rw c.window_on-window.ensures.last (right_number c.requires)

pub gather-requires-clause-left_slot : goal.gather-requires-clause-left_slot
gather-requires-clause-left_slot g c = rw c.window_on-window.ensures.first (left_slot_low c.requires)

pub gather-requires-clause-more : goal.gather-requires-clause-more
gather-requires-clause-more g c = rw (c.window_on-window.ensures.last, c.step_on-last.ensures) (more_behind c.requires)

pub gather-requires-clause-none : goal.gather-requires-clause-none
gather-requires-clause-none g c = rw (c.window_on-window.ensures.last, c.step_on-last.ensures) (none_behind c.requires)
