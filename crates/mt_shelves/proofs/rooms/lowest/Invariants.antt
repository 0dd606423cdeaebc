use Rattle.mt_shelves.proofs.Prelude.{◌≡◌, ◌+◌, drop, holes_from, kept, low, lowest_in, greatest_of, joined}
use Rattle.mt_shelves.proofs.rooms.lowest.Given as goal

abbrev pub invariant-loop-shelf : goal.invariant-loop-shelf
invariant-loop-shelf l =
    lowest_in (kept l.window.size l.window.min l.window.max (holes_from l.first (greatest_of l.kind + 1) (joined (drop l.shelf-index l.fn.shelves)))) ≡ low l.kind (joined l.fn.shelves) l.window.size l.window.min l.window.max
