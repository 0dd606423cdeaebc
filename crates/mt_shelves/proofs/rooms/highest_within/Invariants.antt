use Rattle.mt_shelves.proofs.Prelude.{◌≡◌, length, highest_in, kept, IsMapFrom, holes_in}
use Rattle.mt_shelves.proofs.rooms.highest_within.Given as goal

abbrev pub invariant-loop-range : goal.invariant-loop-range
invariant-loop-range l = record {
  rise : IsMapFrom 0 l.rest;
  answer : highest_in l.window.size (kept l.window.size l.window.min l.window.max (holes_in l.rest)) ≡ highest_in l.window.size (kept l.window.size l.window.min l.window.max (holes_in l.fn.ranges));
}

abbrev pub decreases-loop-range : goal.decreases-loop-range
decreases-loop-range l = length l.rest
