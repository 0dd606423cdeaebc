use Rattle.mt_shelves.proofs.Prelude.{◌≡◌, ◌+◌, ◌≤◌, length, take, high, highest_in, holes_from, kept, joined}
use Rattle.mt_shelves.proofs.rooms.highest.Given as goal

abbrev pub invariant-loop-end : goal.invariant-loop-end
invariant-loop-end l = record {
  bound : l.end ≤ length l.fn.shelves;
  answer : highest_in l.window.size (kept l.window.size l.window.min l.window.max (holes_from 0 (l.last + 1) (joined (take l.end l.fn.shelves)))) ≡ high l.fn.kind (joined l.fn.shelves) l.window.size l.window.min l.window.max;
}

abbrev pub decreases-loop-end : goal.decreases-loop-end
decreases-loop-end l = l.end
