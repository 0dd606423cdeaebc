use Rattle.mt_shelves.proofs.Prelude.{◌≤◌, ◌-◌, length}
use Rattle.mt_shelves.proofs.places.place_above.Given as goal

abbrev pub invariant-loop-end : goal.invariant-loop-end
invariant-loop-end l = record { order : l.fn.from ≤ l.end; bound : l.end ≤ length l.fn.shelves }

abbrev pub decreases-loop-end : goal.decreases-loop-end
decreases-loop-end l = length l.fn.shelves - l.end
